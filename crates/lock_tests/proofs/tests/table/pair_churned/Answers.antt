use Rattle.lock_tests.proofs.Pairing.{as_before_seat, with_seats}
use Rattle.lock_tests.proofs.tests.table.pair_churned.Goals as goal

pub invariant_of-result : goal.invariant_of-result
invariant_of-result g c =
    with_seats _ _ _ _ _ _ c.pair.invariant (as_before_seat _ 0 _ _ c.pair.invariant.first_is c.both_churned-first.ensures.same.0 c.both_churned-first.ensures.nothing.0)
    (as_before_seat _ 1 _ _ c.pair.invariant.second_is c.both_churned-first.ensures.same.1 c.both_churned-first.ensures.nothing.1)
