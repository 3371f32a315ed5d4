use Rattle.std.proofs.Common.{IfSome, subst, sym, ◌∙◌}
use Rattle.head_text.specs.Ranges.{SpellsRange}
use Rattle.head_text.proofs.RangeLemmas.{spelled_is_read, read_is_spelled}
use Rattle.head_text.proofs.range.read_range.Goals as goal

pub returns-clause-found : goal.returns-clause-found
returns-clause-found c =
    subst (λ r. IfSome r (SpellsRange c.args.text.now)) (sym c.range_of.ensures) (read_is_spelled c.args.text.now)

pub returns-clause-only : goal.returns-clause-only
returns-clause-only c = λ range s. c.range_of.ensures ∙ spelled_is_read c.args.text.now range s
