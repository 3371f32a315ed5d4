use Rattle.std.proofs.Common.{take}
use Rattle.path_walk.specs.Holds.{AreHeldToWrite}
use Rattle.path_walk.proofs.hold.unheld.Given as goal

abbrev pub invariant-loop-id : goal.invariant-loop-id
invariant-loop-id g l = AreHeldToWrite (g.V.View.held l.view) (take l.id-index l.ids)
