use Rattle.std.proofs.Common.{List, slice_get, ap, ◌∙◌}
use Rattle.lock_core.specs.declared.object.LockMode.{LockMode}
use Rattle.lock_tests.proofs.Tallying.{within_every}
use Rattle.lock_tests.proofs.Pairing.{as_before_seat, same_twice, with_seats}
use Rattle.lock_tests.proofs.tests.calls.read_kept.Goals as goal

pub drop_extra-requires-clause-within : goal.drop_extra-requires-clause-within
drop_extra-requires-clause-within g c = within_every _ c.acquire-held.result.modes
    (λ k h. ap (λ (l : List LockMode). slice_get l k) c.acquire-held.ensures.plan ∙ c.every_stripe-plan.ensures k h)

pub invariant_of-pair : goal.invariant_of-pair
invariant_of-pair g c =
    with_seats _ _ _ _ _ _ c.pair.invariant
    (as_before_seat _ 0 _ _ c.pair.invariant.first_is
    (same_twice _ _ _ (same_twice _ _ _ c.acquire-held.ensures.same c.drop_extra.ensures.same) c.release.ensures.same) c.release.ensures.nothing)
    (as_before_seat _ 1 _ _ c.pair.invariant.second_is c.read-part.ensures.same c.read-part.ensures.nothing)
