use Rattle.std.proofs.Common.{refl}
use Rattle.engine.proofs.OpeningLemmas.{kept_at_start}
use Rattle.engine.proofs.solo.Solo.start.Goals as goal

pub invariant_of-result : goal.invariant_of-result
invariant_of-result c = kept_at_start _ c.new.ensures.entries c.in_ok-start.ensures refl
