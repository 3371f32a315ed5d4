-- What a seat knows once another was joined into it.
use Rattle.std.proofs.Common.{◌≡◌, ◌⊎◌, inl, inr, ⊎_elim, ℕ, zero, suc, List, [], ◌∷◌, ◌++◌, length, slice_get, refl, ap, sym, ◌∙◌, subst}
use Rattle.std.specs.Prelude as std
use Rattle.lock_core.specs.declared.machine.Known.{Known}
use Rattle.lock_core.specs.Machine.{known}
use Rattle.lock_core.proofs.Totals.{elem-append, elem_within}
use Rattle.atomic_table.specs.Table.{Me}
use Rattle.path_locks.specs.declared.rule.Slot.{Slot}
use Rattle.path_locks.specs.declared.rule.View.{View}
use Rattle.path_locks.specs.Plays.{IsResting, joined_view}
use Rattle.path_locks.specs.Views.{SeatView, Knew, joined_in, itself, itself_before}
use Rattle.path_locks.proofs.NewSeats.{get_snoc}
use Rattle.std.proofs.lemmas.Option.{none-some}
use mathlib.Core.Option.{some}
use lib.ListN.{get_elem?}

elem_between : {A : Type 0} (xs ys : List A) (y : A) → get_elem? (xs ++ y ∷ ys) (length xs) ≡ some y
elem_between [] ys y = refl
elem_between (x ∷ xs) ys y = elem_between xs ys y

module _ {T E : Type 0} where
  kept : (v w : View T E) (p : Known E) → Knew v p → Knew (joined_view v w) p
  kept v w p (joined_in i e) = joined_in i (elem-append v.at.olds (known w.at ∷ w.at.olds) i (elem_within v.at.olds i p e) ∙ e)
  kept v w p (itself n m s) = itself_before n m 0 (ap (λ (l : List E). some l) (sym s))
  kept v w p (itself_before n m i e) = itself_before n m (suc i) e

  new : (v w : View T E) → Knew (joined_view v w) (known w.at)
  new v w = joined_in (length v.at.olds) (elem_between v.at.olds w.at.olds (known w.at))

  module _ {K : Type 0} where
    pub knew_kept : (me me' : Me (Slot T E K) (View T E)) (w : View T E) → me' ≡ (joined_view me.0 w, me.1) → (p : Known E) → Knew me.0 p → Knew me'.0 p
    knew_kept me me' w e p k = subst (λ (z : Me (Slot T E K) (View T E)). Knew z.0 p) (sym e) (kept me.0 w p k)

    pub knew_new : (me me' : Me (Slot T E K) (View T E)) (w : View T E) → me' ≡ (joined_view me.0 w, me.1) → Knew me'.0 (known w.at)
    knew_new me me' w e = subst (λ (z : Me (Slot T E K) (View T E)). Knew z.0 (known w.at)) (sym e) (new me.0 w)

    pub resting_joined : (me me' : Me (Slot T E K) (View T E)) (w : View T E) → me' ≡ (joined_view me.0 w, me.1) → IsResting me.0.at → IsResting me'.0.at
    resting_joined me me' w e r = subst (λ (z : Me (Slot T E K) (View T E)). IsResting z.0.at) (sym e)
        (record { live = r.live; idle = record { no_hold = r.idle.no_hold; no_latch = r.idle.no_latch; no_journal = r.idle.no_journal } })

    -- of seats that are left or known, the last one becomes known
    pub left_or_known : (all left seats : List (SeatView T E K)) (last : SeatView T E K) (v w : View T E) → seats ≡ left ++ last ∷ []
        → ((k : ℕ) (s : SeatView T E K) → slice_get all k ≡ std.Some s → (slice_get seats k ≡ std.Some s) ⊎ Knew v (known s.me.0.at))
        → ((p : Known E) → Knew v p → Knew w p) → Knew w (known last.me.0.at)
        → (k : ℕ) (s : SeatView T E K) → slice_get all k ≡ std.Some s → (slice_get left k ≡ std.Some s) ⊎ Knew w (known s.me.0.at)
    left_or_known all left seats last v w e before more here k s at = ⊎_elim
        (λ p. ⊎_elim (λ q. inl q) (λ q. inr (subst (λ (z : SeatView T E K). Knew w (known z.me.0.at)) q.1 here))
        (get_snoc left last k s (ap (λ (l : List (SeatView T E K)). slice_get l k) (sym e) ∙ p)))
        (λ p. inr (more (known s.me.0.at) p)) (before k s at)

    -- a seat that is left is one of all
    pub left_are : (all left seats : List (SeatView T E K)) (last : SeatView T E K) → seats ≡ left ++ last ∷ []
        → ((k : ℕ) (s : SeatView T E K) → slice_get seats k ≡ std.Some s → slice_get all k ≡ std.Some s)
        → (k : ℕ) (s : SeatView T E K) → slice_get left k ≡ std.Some s → slice_get all k ≡ std.Some s
    left_are all left seats last e all_are k s at = all_are k s (ap (λ (l : List (SeatView T E K)). slice_get l k) e ∙ get_longer left (last ∷ []) k s at)
      where
        get_longer : (xs ys : List (SeatView T E K)) (k : ℕ) (s : SeatView T E K) → slice_get xs k ≡ std.Some s → slice_get (xs ++ ys) k ≡ std.Some s
        get_longer [] ys k s q = absurd (none-some s q)
        get_longer (x ∷ xs) ys zero s q = q
        get_longer (x ∷ xs) ys (suc k) s q = get_longer xs ys k s q

    pub last_is : (all left : List (SeatView T E K)) (last : SeatView T E K) → all ≡ left ++ last ∷ [] → slice_get all (length left) ≡ std.Some last
    last_is all left last e = ap (λ (l : List (SeatView T E K)). slice_get l (length left)) e ∙ at_end left last
      where
        at_end : (xs : List (SeatView T E K)) (s : SeatView T E K) → slice_get (xs ++ s ∷ []) (length xs) ≡ std.Some s
        at_end [] s = refl
        at_end (x ∷ xs) s = at_end xs s
