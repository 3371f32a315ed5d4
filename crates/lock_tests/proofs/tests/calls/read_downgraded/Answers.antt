use Rattle.std.proofs.Common.{List, slice_get, ap, ◌∙◌, arith}
use Rattle.lock_core.specs.declared.object.LockMode.{LockMode}
use Rattle.lock_tests.proofs.Pairing.{as_before_seat, same_twice, with_seats}
use Rattle.lock_tests.proofs.tests.calls.read_downgraded.Goals as goal

pub downgrade-requires-clause-exclusive : goal.downgrade-requires-clause-exclusive
downgrade-requires-clause-exclusive g c = ap (λ (l : List LockMode). slice_get l 6) c.acquire-held.ensures.plan ∙ c.footprint-plan.ensures 6 (omega arith)

pub invariant_of-pair : goal.invariant_of-pair
invariant_of-pair g c =
    with_seats _ _ _ _ _ _ c.pair.invariant
    (as_before_seat _ 0 _ _ c.pair.invariant.first_is
    (same_twice _ _ _ (same_twice _ _ _ c.acquire-held.ensures.same c.downgrade.ensures.same) c.release.ensures.same) c.release.ensures.nothing)
    (as_before_seat _ 1 _ _ c.pair.invariant.second_is c.read-part.ensures.same c.read-part.ensures.nothing)
