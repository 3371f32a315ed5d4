use Rattle.lock_tests.proofs.Pairing.{as_before_seat, with_seats}
use Rattle.lock_tests.proofs.tests.calls.read_once.Goals as goal

pub invariant_of-pair : goal.invariant_of-pair
invariant_of-pair g c =
    with_seats _ _ _ _ _ _ c.pair.invariant (as_before_seat _ 0 _ _ c.pair.invariant.first_is c.read.ensures.same c.read.ensures.nothing) c.pair.invariant.second_is
