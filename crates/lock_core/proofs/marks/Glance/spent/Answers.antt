use Rattle.std.proofs.Common.{refl}
use Rattle.lock_core.specs.Marks.{free_marks}
use Rattle.lock_core.proofs.marks.Glance.spent.Goals as goal

pub returns : goal.returns
unfolding free_marks
returns c = (refl, refl, refl, refl, refl)
