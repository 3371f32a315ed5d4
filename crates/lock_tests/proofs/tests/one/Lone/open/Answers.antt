use Rattle.lock_tests.proofs.Pairing.{new_idle}
use Rattle.lock_tests.proofs.tests.one.Lone.open.Goals as goal

pub alone-requires-clause-idle : goal.alone-requires-clause-idle
alone-requires-clause-idle g c = new_idle _ _ c.in_ok-store.ensures.new
