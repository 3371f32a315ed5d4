use Rattle.std.proofs.Common.{subst}
use Rattle.http_front.specs.declared.framing.Values.{Values}
use Rattle.http_front.specs.Framings.{ValuesAre}
use Rattle.http_front.proofs.FramingLemmas.{none_one, one_several, still_several}
use Rattle.http_front.proofs.framing.with_one.Goals as goal

pub returns-in-Absent : goal.returns-in-Absent
returns-in-Absent c values are = none_one _ values (subst (λ (v : Values). ValuesAre v values) c.in-Absent.is are)

pub returns-in-One : goal.returns-in-One
returns-in-One c values are = one_several _ _ values (subst (λ (v : Values). ValuesAre v values) c.in-One.is are)

pub returns-in-Several : goal.returns-in-Several
returns-in-Several c values are = still_several _ values (subst (λ (v : Values). ValuesAre v values) c.in-Several.is are)
