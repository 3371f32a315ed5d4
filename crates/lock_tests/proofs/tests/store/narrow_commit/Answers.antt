use Rattle.lock_tests.proofs.Pairing.{again, with_both}
use Rattle.lock_tests.proofs.tests.store.narrow_commit.Goals as goal

pub invariant_of-pair : goal.invariant_of-pair
invariant_of-pair g c =
    with_both _ _ _ _ _ _ c.pair.invariant (again _ 0 _ _ c.pair.invariant.first_is c.narrowed.ensures.same c.narrowed.ensures.nothing) c.pair.invariant.second_is
