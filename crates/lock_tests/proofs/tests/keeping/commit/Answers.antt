use Rattle.lock_tests.proofs.Pairing.{only_again}
use Rattle.lock_tests.proofs.tests.keeping.commit.Goals as goal

pub invariant_of-shop : goal.invariant_of-shop
invariant_of-shop g c = only_again _ _ _ _ c.shop.invariant c.tallied.ensures.same c.tallied.ensures.nothing
