use Rattle.path_locks.specs.Views.{HoldsNothing, IsSameSeat}
use Rattle.store_tests.proofs.tests.often_taken.Given as goal

abbrev pub invariant-loop-round : goal.invariant-loop-round
invariant-loop-round g l = IsSameSeat l.fn.pass.seat l.pass.seat × HoldsNothing l.pass.seat
