use Rattle.lock_tests.proofs.Pairing.{as_before, with_both}
use Rattle.lock_tests.proofs.tests.extending.climbed_to_the_end.Goals as goal

pub invariant_of-pair : goal.invariant_of-pair
invariant_of-pair g c =
    with_both _ _ _ _ _ _ c.pair.invariant (as_before _ 0 _ _ c.pair.invariant.first_is c.climbed.ensures.same c.climbed.ensures.nothing) c.pair.invariant.second_is
