use Rattle.lock_tests.proofs.Pairing.{as_before_seat, same_twice, with_seats}
use Rattle.lock_tests.proofs.tests.calls.reserved.Goals as goal

pub invariant_of-pair : goal.invariant_of-pair
invariant_of-pair g c =
    with_seats _ _ _ _ _ _ c.pair.invariant
    (as_before_seat _ 0 _ _ c.pair.invariant.first_is (same_twice _ _ _ c.acquire-held.ensures.same c.release.ensures.same) c.release.ensures.nothing)
    c.pair.invariant.second_is
