use Rattle.path_locks.specs.Views.{HoldsNothing, IsSeatAgain}
use Rattle.lock_tests.proofs.callers.churned.Given as goal

abbrev pub invariant-loop-round : goal.invariant-loop-round
invariant-loop-round g l = IsSeatAgain l.fn.pass.seat l.pass.seat × HoldsNothing l.pass.seat
