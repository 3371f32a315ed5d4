use Rattle.lock_tests.proofs.Pairing.{only_again}
use Rattle.lock_tests.proofs.tests.shelves.deliver.Goals as goal

pub invariant_of-hall : goal.invariant_of-hall
invariant_of-hall g c = only_again _ _ _ _ c.hall.invariant c.delivered.ensures.same c.delivered.ensures.nothing
