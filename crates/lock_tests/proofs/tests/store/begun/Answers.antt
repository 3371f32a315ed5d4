use Rattle.lock_tests.proofs.Pairing.{as_before, same_twice, with_both}
use Rattle.lock_tests.proofs.tests.store.begun.Goals as goal

pub invariant_of-pair : goal.invariant_of-pair
invariant_of-pair g c =
    with_both _ _ _ _ _ _ c.pair.invariant
    (as_before _ 0 _ _ c.pair.invariant.first_is (same_twice _ _ _ c.begin-held.ensures.same c.finish.ensures.same) c.finish.ensures.nothing) c.pair.invariant.second_is
