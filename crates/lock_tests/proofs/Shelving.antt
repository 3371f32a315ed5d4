-- Callers of a store of shelves.
use Rattle.std.proofs.Common.{◌≡◌, ⊎_elim, ℕ, ◌<◌, Bool, true, false, List, length, slice_get, slice_set, nat_eq, sum_by, Some, ap, sym, ◌∙◌, arith}
use Rattle.std.proofs.lemmas.Bool.Decides.{eqb_tells}
use Rattle.lock_core.specs.declared.object.LockMode.{LockMode}
use Rattle.lock_core.specs.declared.object.LockMode.TheVariants as mode
use Rattle.lock_core.specs.declared.machine.Hold.{Hold}
use Rattle.lock_core.specs.declared.machine.Hold.TheVariants.{Free, Shared, Looked, Exclusive}
use Rattle.lock_core.specs.Object.{mode_of}
use Rattle.lock_core.specs.Machine.{hold_at, HeldIn, IsNoted}
use Rattle.path_locks.specs.Plans.{no_plan}
use Rattle.path_locks.specs.Views.{SeatView, HeldView, number_of, mine_of, IsHeldBy}
use Rattle.path_locks.proofs.Below.{get-set_same, get-set_other}
use Rattle.striped_store.specs.Commits.{CanCommit}
use Rattle.lock_tests.specs.declared.shelves.Shelf.{Shelf}
use Rattle.lock_tests.specs.declared.shelves.Delivery.{Delivery}
use Rattle.lock_tests.specs.Shelved.{shelves, bare_shelf}
use Rattle.lock_tests.proofs.Tallying.{in_replicate, none_long, all_noted}

-- the plan of a delivery
pub shelved : (w : ℕ) (a c : List LockMode) → w < 64 → a ≡ no_plan → c ≡ slice_set a w mode.Exclusive
    → (k : ℕ) → k < 64 → slice_get c k ≡ Some (mode_of (nat_eq k w) false)
shelved w a c hw ea ec k h =
    let wide_a : length a ≡ 64 = none_long a ea in
    ap (λ (l : List LockMode). slice_get l k) ec ∙ ⊎_elim
    (λ p. ap (λ (i : ℕ). slice_get (slice_set a w mode.Exclusive) i) p.1 ∙ get-set_same a w mode.Exclusive (omega arith)
    ∙ ap (λ (z : Bool). Some (mode_of z false)) (sym p.0))
    (λ p. get-set_other a w k mode.Exclusive p.1 ∙ ap (λ (l : List LockMode). slice_get l k) ea ∙ in_replicate 64 k mode.None h
    ∙ ap (λ (z : Bool). Some (mode_of z false)) (sym p.0))
    (eqb_tells k w)

unread : {T : Type 0} (w : Bool) (h : Hold T) → HeldIn (mode_of w false) h → IsNoted h
unread w Free a = tt
unread true Shared a = absurd a
unread false Shared a = absurd a
unread w (Looked x) a = tt
unread w (Exclusive x) a = tt

-- what is held is the footprint of the delivery, and it is the next one of its pass
pub can_deliver : {K : Type 0} (t : SeatView Shelf Delivery K) (held : HeldView Shelf) (e : Delivery) → IsHeldBy bare_shelf t held
    → ((k : ℕ) → k < 64 → slice_get held.modes k ≡ Some (mode_of (nat_eq k e.shelf) false)) → length t.me.0.at.holds ≡ 64
    → e.pass ≡ number_of t → e.turn ≡ sum_by (λ (d : Delivery). d.ids) (mine_of t) → CanCommit shelves t e
can_deliver t held e is modes wide own turn = record {
  looked = all_noted t.me.0.at.holds wide (λ k h. unread (nat_eq k e.shelf) (hold_at t.me.0.at.holds k) (is.modes k _ h (modes k h)));
  footprint = λ n k h. is.modes k _ h (modes k h);
  fits = (own, turn);
}
