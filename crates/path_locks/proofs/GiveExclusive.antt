-- The step that gives back a stripe that is held exclusively.
use Rattle.std.proofs.Common.{◌≡◌, ℕ, ◌<◌, List, ◌∷◌, length, slice_set, refl, ap, sym, ◌∙◌, subst, length-set, arith}
use Rattle.lock_core.specs.declared.object.LockMode.TheVariants as mode
use Rattle.lock_core.specs.declared.machine.Hold.TheVariants as hold
use Rattle.lock_core.specs.declared.machine.Sitting.{Sitting}
use Rattle.lock_core.specs.declared.machine.Event.TheVariants as event
use Rattle.lock_core.specs.Object.{Object}
use Rattle.lock_core.specs.Machine as machine
use Rattle.lock_core.specs.Machine.{LockState, plain, hold_at, note_of, seat_at, with_hold, IsAllowed}
use Rattle.lock_core.specs.Lists.{elem-set_same, elem-set_other}
use Rattle.lock_core.proofs.Totals.{elem_within}
use Rattle.lock_core.proofs.UnlockExclusive.{unlock_exclusive_keeps}
use Rattle.commit_journal.specs.Keeper.{Told}
use Rattle.atomic_table.specs.Table.{Me, gives, put_back, rest, step, Allows}
use Rattle.path_locks.specs.declared.rule.Slot.{Slot}
use Rattle.path_locks.specs.declared.rule.Slot.TheVariants.{Part}
use Rattle.path_locks.specs.declared.rule.View.{View}
use Rattle.path_locks.specs.declared.rule.Opening.{Opening}
use Rattle.path_locks.specs.Rule.{Ruled, Shows}
use Rattle.path_locks.specs.Plays.{with_stripe, MayGive, gave_exclusive}
use Rattle.path_locks.proofs.Shown.{placed_set, seat_of_view, shown_after, views_after, stands_at}
use Rattle.path_locks.proofs.Kept.{kept_after, put_far}
use mathlib.Core.Option.{Option, none, some}
use lib.ListN.{get_elem?}

module _ {T E R : Type 0} (o : Object T E R) where
  may_unlock : (m : LockState T E R) (v s : ℕ) (x : Sitting T E) → seat_at m.seats v ≡ x → MayGive mode.Exclusive x s → IsAllowed o m (plain (event.UnlockExclusive v s))
  may_unlock m v s x e may =
      let t = subst (λ (z : Sitting T E). MayGive mode.Exclusive z s) (sym e) may in
      (t.quiet.live, (t.quiet.no_journal, (t.quiet.no_latch, (t.held, tt))))

  module _ {K : Type 0} (bare : T → T) (tells : K → Told E) (key : Opening E K) where
    pub may_give_exclusive : (slots id : ℕ) (me : Me (Slot T E K) (View T E)) (s : ℕ) (y : T) → s < 64 → MayGive mode.Exclusive me.0.at s
        → hold_at me.0.at.holds s ≡ hold.Exclusive (bare y) → me.1 ≡ (s, Part y) ∷ rest me.1
        → Allows (Ruled o bare tells key) slots id me s (λ _. 0) (λ _. gave_exclusive o (step slots s 0 0 none) me 0)
    may_give_exclusive slots id me s y h may note hand t ruled long here small =
        let m = ruled.0 in
        let sh = ruled.1 in
        let ok = ruled.3 in
        let h0 = key.journal.value.entries in
        let seat = seat_of_view bare key t m sh id me.0 here in
        let allowed = may_unlock m id s me.0.at seat may in
        let w : View T E = with_stripe me.0 s hold.Free in
        let m' : LockState T E R = machine.stepped o m (plain (event.UnlockExclusive id s)) in
        let ok' = unlock_exclusive_keeps o h0 m id s h ok allowed in
        let noted : note_of (hold_at (seat_at m.seats id).holds s) ≡ some (bare y) =
        ap (λ (z : Sitting T E). note_of (hold_at z.holds s)) seat ∙ ap note_of note in
        let back : slice_set t.homes s (some (Part y)) ≡ put_back t.homes me.1 = sym (ap (λ (c : List (ℕ × Slot T E K)). put_back t.homes c) hand) in
        let long' : length (slice_set t.homes s (some (Part y))) ≡ 65 = length-set t.homes s (some (Part y)) ∙ sh.slots in
        let placed = placed_set bare t.homes m.homes s (some (Part y)) (note_of (hold_at (seat_at m.seats id).holds s)) (omega (arith, sh.slots)) (omega (arith, ok.homes))
        (ap (λ (z : Option T). some z) (sym noted)) sh.places in
        let far : get_elem? (slice_set t.homes s (some (Part y))) 64 ≡ get_elem? t.homes 64 = elem-set_other t.homes s 64 (some (Part y)) (λ e. omega arith) in
        let shows0 = shown_after bare key t m sh s 0 (λ e. omega arith) 0 refl id w
        (with_hold (seat_at m.seats id) s hold.Free) (ap (λ (z : Sitting T E). with_hold z s hold.Free) (sym seat))
        (slice_set t.homes s (some (Part y))) (slice_set m.homes s (note_of (hold_at (seat_at m.seats id).holds s))) long' far placed in
        let shows = subst (λ (hs : List (Option (Slot T E K))). Shows bare key (record { words = slice_set t.words s 0; homes = hs; views = slice_set t.views id w }) m') back shows0 in
        let views = views_after bare key m.journal t.views id me.0 w here refl refl refl may.quiet.live ruled.2 in
        let there = elem-set_same t.views id w (elem_within t.views id me.0 here) in
        let stands = stands_at bare o key m' ok' id w.at (seat_of_view bare key _ m' shows id w there) may.quiet.live in
        (w, gives, tt, (m', shows, views, ok', kept_after tells t ruled.4 _ (put_back t.homes me.1) (put_far t.homes s (Part y) me.1 hand (λ e. omega arith)) id me.0 w here refl refl may.quiet.live refl), record { view = refl; hand_is = refl; stands = stands })

    -- the same once the part lies in the slot that was taken last
    pub may_give_back : (slots id : ℕ) (me me' : Me (Slot T E K) (View T E)) (s : ℕ) (y : T) → me' ≡ (me.0, (s, Part y) ∷ rest me.1) → s < 64 → MayGive mode.Exclusive me.0.at s
        → hold_at me.0.at.holds s ≡ hold.Exclusive (bare y)
        → Allows (Ruled o bare tells key) slots id me' s (λ _. 0) (λ _. gave_exclusive o (step slots s 0 0 none) me' 0)
    may_give_back slots id me me' s y e h may note =
        subst (λ (z : Me (Slot T E K) (View T E)). Allows (Ruled o bare tells key) slots id z s (λ _. 0) (λ _. gave_exclusive o (step slots s 0 0 none) z 0)) (sym e)
        (may_give_exclusive slots id (me.0, (s, Part y) ∷ rest me.1) s y h may note refl)
