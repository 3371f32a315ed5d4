use Rattle.lock_tests.proofs.Pairing.{again_seat, as_before_seat, with_seats}
use Rattle.lock_tests.proofs.tests.calls.commit_seen.Goals as goal

pub invariant_of-pair : goal.invariant_of-pair
invariant_of-pair g c =
    with_seats _ _ _ _ _ _ c.pair.invariant (again_seat _ 0 _ _ c.pair.invariant.first_is c.committed-number.ensures.same c.committed-number.ensures.nothing)
    (as_before_seat _ 1 _ _ c.pair.invariant.second_is c.read-part.ensures.same c.read-part.ensures.nothing)
