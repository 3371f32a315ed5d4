use Rattle.lock_tests.proofs.Tallying.{none_above}
use Rattle.lock_tests.proofs.Pairing.{as_before_seat, same_twice, with_seats}
use Rattle.lock_tests.proofs.tests.calls.extended.Goals as goal

pub extend-requires-clause-above : goal.extend-requires-clause-above
extend-requires-clause-above g c = λ k above h. none_above c.acquire-held.result.modes c.none-plan.result c.acquire-held.ensures.plan c.none-plan.ensures k h

pub invariant_of-pair : goal.invariant_of-pair
invariant_of-pair g c =
    with_seats _ _ _ _ _ _ c.pair.invariant
    (as_before_seat _ 0 _ _ c.pair.invariant.first_is
    (same_twice _ _ _ (same_twice _ _ _ c.acquire-held.ensures.same c.extend.ensures.same) c.release.ensures.same) c.release.ensures.nothing) c.pair.invariant.second_is
