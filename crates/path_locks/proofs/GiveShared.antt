-- The step that gives back a stripe that is held shared.
use Rattle.std.proofs.Common.{◌≡◌, ℕ, ◌+◌, ◌-◌, ◌%◌, ◌^◌, ◌<◌, ◌≤◌, true, List, slice_index, map, refl, ap, sym, ◌∙◌, subst, arith}
use Rattle.lock_core.specs.declared.object.LockMode.TheVariants as mode
use Rattle.lock_core.specs.declared.machine.Hold.{Hold}
use Rattle.lock_core.specs.declared.machine.Hold.TheVariants as hold
use Rattle.lock_core.specs.declared.machine.Sitting.{Sitting}
use Rattle.lock_core.specs.declared.machine.Event.TheVariants as event
use Rattle.lock_core.specs.Object.{Object}
use Rattle.lock_core.specs.Machine as machine
use Rattle.lock_core.specs.Machine.{LockState, plain, exclusively, hold_at, HeldIn, seat_at, with_hold, IsAllowed}
use Rattle.lock_core.specs.Sound.{Grip, grip, shared_in, IsSound}
use Rattle.lock_core.specs.Lists.{elem-set_same}
use Rattle.lock_core.proofs.Totals.{elem_within, elem-map, total_at}
use Rattle.lock_core.proofs.Columns.{live_elem}
use Rattle.lock_core.proofs.UnlockShared.{unlock_shared_keeps}
use Rattle.commit_journal.specs.Keeper.{Told}
use Rattle.atomic_table.specs.Table.{Me, keeps, step, Allows}
use Rattle.path_locks.specs.declared.rule.Slot.{Slot}
use Rattle.path_locks.specs.declared.rule.View.{View}
use Rattle.path_locks.specs.declared.rule.Opening.{Opening}
use Rattle.path_locks.specs.Rule.{Ruled}
use Rattle.path_locks.specs.Plays.{with_stripe, MayGive, gave_shared}
use Rattle.path_locks.proofs.Shown.{seat_of_view, word_is, shown_after, views_after, stands_at}
use Rattle.path_locks.proofs.Kept.{kept_after}
use mathlib.Core.Option.{none}

-- one less, as the word counts
one_less : (n : ℕ) → 1 ≤ n → n < 18446744073709551616 → (n + (2 ^ 64 - 1)) % 2 ^ 64 ≡ n - 1
one_less n low high = omega arith

module _ {T : Type 0} where
  counts_one : (h : Hold T) → HeldIn mode.Shared h → shared_in h ≡ 1
  counts_one hold.Free p = absurd p
  counts_one hold.Shared p = refl
  counts_one (hold.Looked x) p = refl
  counts_one (hold.Exclusive x) p = absurd p

module _ {T E R : Type 0} (o : Object T E R) where
  may_unlock : (m : LockState T E R) (v s : ℕ) (x : Sitting T E) → seat_at m.seats v ≡ x → MayGive mode.Shared x s → IsAllowed o m (plain (event.UnlockShared v s))
  may_unlock m v s x e may =
      let t = subst (λ (z : Sitting T E). MayGive mode.Shared z s) (sym e) may in
      (t.quiet.live, (t.quiet.no_journal, (t.quiet.no_latch, (t.held, tt))))

  -- the word counts the seat
  word_pos : (h0 : List E) (m : LockState T E R) → IsSound o h0 m → (v s : ℕ) → s < 64 → (seat_at m.seats v).live ≡ true → HeldIn mode.Shared (hold_at (seat_at m.seats v).holds s)
      → 1 ≤ slice_index m.words s
  word_pos h0 m ok v s h live held =
      let x = seat_at m.seats v in
      let t = total_at (λ (g : Grip T). shared_in g.hold) (map (grip s) m.seats) v (grip s x) (elem-map (grip s) m.seats v x (live_elem m.seats v live)) in
      let one = counts_one (hold_at x.holds s) held in
      let c = (ok.stripes s h).counts.counted in
      omega arith

  module _ {K : Type 0} (bare : T → T) (tells : K → Told E) (key : Opening E K) where
    pub may_give_shared : (slots id : ℕ) (me : Me (Slot T E K) (View T E)) (s : ℕ) → s < 64 → MayGive mode.Shared me.0.at s
        → Allows (Ruled o bare tells key) slots id me s (λ n. (n + (2 ^ 64 - 1)) % 2 ^ 64) (gave_shared o (step slots s 1 0 none) me)
    may_give_shared slots id me s h may t ruled long here small =
        let m = ruled.0 in
        let sh = ruled.1 in
        let ok = ruled.3 in
        let h0 = key.journal.value.entries in
        let seat = seat_of_view bare key t m sh id me.0 here in
        let same = word_is bare key t m sh s in
        let allowed = may_unlock m id s me.0.at seat may in
        let pos = word_pos h0 m ok id s h allowed.0 allowed.1.1.1.0 in
        let w : View T E = with_stripe me.0 s hold.Free in
        let m' : LockState T E R = machine.stepped o m (plain (event.UnlockShared id s)) in
        let ok' = unlock_shared_keeps o h0 m id s h ok allowed in
        let less = one_less (slice_index t.words s) (omega arith) small ∙ ap (λ (k : ℕ). k - 1) same in
        let shows = shown_after bare key t m sh s ((slice_index t.words s + (2 ^ 64 - 1)) % 2 ^ 64) (λ e. omega arith) (slice_index m.words s - 1) less id w
        (with_hold (seat_at m.seats id) s hold.Free) (ap (λ (z : Sitting T E). with_hold z s hold.Free) (sym seat))
        t.homes m.homes sh.slots refl sh.places in
        let views = views_after bare key m.journal t.views id me.0 w here refl refl refl may.quiet.live ruled.2 in
        let there = elem-set_same t.views id w (elem_within t.views id me.0 here) in
        let stands = stands_at bare o key m' ok' id w.at (seat_of_view bare key _ m' shows id w there) may.quiet.live in
        (w, keeps, tt, (m', shows, views, ok', kept_after tells t ruled.4 _ t.homes refl id me.0 w here refl refl may.quiet.live refl), record { view = refl; hand_is = refl; stands = stands })
