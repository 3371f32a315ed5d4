use Rattle.lock_tests.proofs.tests.machine.events_of.Goals as goal

pub add-requires : goal.add-requires
add-requires c = c.loop-act.invariant
