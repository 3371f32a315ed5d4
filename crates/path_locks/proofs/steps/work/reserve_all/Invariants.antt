use Rattle.path_locks.specs.Working.{AreReadyBelow, AreChangedBelow}
use Rattle.path_locks.proofs.steps.work.reserve_all.Given as goal

abbrev pub invariant-loop-at : goal.invariant-loop-at
invariant-loop-at g l = record {
  same : AreChangedBelow g.P.Parted.bare (λ q. q) l.at l.fn.parts.items l.parts.items;
  ready : AreReadyBelow g.P.Parted.ready l.work l.at l.parts.items;
}
