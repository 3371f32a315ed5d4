use Rattle.path_locks.specs.Working.{worked, AreChangedBelow}
use Rattle.path_locks.proofs.steps.work.apply_all.Given as goal

abbrev pub invariant-loop-at : goal.invariant-loop-at
invariant-loop-at g l = AreChangedBelow g.P.Parted.bare (worked g.P.Parted.applied l.work l.number) l.at l.fn.parts.items l.parts.items
