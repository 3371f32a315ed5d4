use Rattle.std.specs.Prelude.{All}
use Rattle.lock_core.specs.Machine.{NamesStripe}
use Rattle.lock_tests.proofs.tests.machine.events_of.Given as goal

abbrev pub invariant-loop-act : goal.invariant-loop-act
invariant-loop-act l = All NamesStripe l.events.items
