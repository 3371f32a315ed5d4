use Rattle.lock_tests.proofs.Pairing.{as_before, with_both}
use Rattle.lock_tests.proofs.tests.extending.pair_climbed.Goals as goal

pub invariant_of-result : goal.invariant_of-result
invariant_of-result g c =
    with_both _ _ _ _ _ _ c.pair.invariant (as_before _ 0 _ _ c.pair.invariant.first_is c.both_climbed-first.ensures.same.0 c.both_climbed-first.ensures.nothing.0)
    (as_before _ 1 _ _ c.pair.invariant.second_is c.both_climbed-first.ensures.same.1 c.both_climbed-first.ensures.nothing.1)
