-- The step that takes a stripe exclusively.
use Rattle.std.proofs.Common.{◌≡◌, ℕ, eqb, ◌<◌, slice_set, slice_index, refl, ap, sym, ◌∙◌, subst, length-set, arith}
use Rattle.lock_core.specs.declared.machine.Hold.TheVariants.{Exclusive}
use Rattle.lock_core.specs.declared.machine.Sitting.{Sitting}
use Rattle.lock_core.specs.declared.machine.Event.TheVariants as event
use Rattle.lock_core.specs.Object.{Object, IsLawful}
use Rattle.lock_core.specs.Machine as machine
use Rattle.lock_core.specs.Machine.{LockState, plain, exclusively, exclusive_with, seat_at, with_hold, IsAllowed}
use Rattle.lock_core.specs.Lists.{elem-set_same, elem-set_other}
use Rattle.lock_core.proofs.Totals.{elem_within}
use Rattle.lock_core.proofs.LockExclusive.{lock_exclusive_keeps, lock_exclusive_finds}
use Rattle.commit_journal.specs.Keeper.{Told}
use Rattle.atomic_table.specs.Table.{Me, Act, keeps, takes, step, stepped, Valid, Allows, carried_after}
use Rattle.atomic_table.proofs.Lists.{exchanged}
use Rattle.path_locks.specs.declared.rule.Slot.{Slot}
use Rattle.path_locks.specs.declared.rule.Slot.TheVariants.{Part}
use Rattle.path_locks.specs.declared.rule.View.{View}
use Rattle.path_locks.specs.declared.rule.Opening.{Opening}
use Rattle.path_locks.specs.Rule.{Ruled}
use Rattle.path_locks.specs.Plays.{with_stripe, MayTake, took_exclusive}
use Rattle.path_locks.proofs.Shown.{part_there, placed_set, seat_of_view, word_is, shown_after, views_after, load_keeps, stands_at}
use Rattle.path_locks.proofs.Kept.{kept_after}
use mathlib.Core.Option.{Option, none, some}
use prog.Atomic.{either}
use lib.ListN.{get_elem?}

module _ {T E R : Type 0} (o : Object T E R) where
  may_lock : (m : LockState T E R) (v s : ℕ) (x : Sitting T E) → seat_at m.seats v ≡ x → MayTake x s → slice_index m.words s ≡ 0
      → IsAllowed o m (plain (event.LockExclusive v s))
  may_lock m v s x e may zero =
      let t = subst (λ (z : Sitting T E). MayTake z s) (sym e) may in
      (t.quiet.live, (t.quiet.no_journal, (t.quiet.no_latch, (t.above, (zero, tt)))))

  -- what the view and the machine come to have in common
  same_hold : (x x' : Sitting T E) (s : ℕ) (h : Option (Option T)) (y : T) → x' ≡ x → h ≡ some (some y) → with_hold x s (Exclusive y) ≡ with_hold x' s (exclusive_with h)
  same_hold x x' s h y e f = λ i. with_hold (sym e i) s (exclusive_with (sym f i))

  module _ {K : Type 0} (lawful : IsLawful o) (bare : T → T) (tells : K → Told E) (key : Opening E K) where
    pub may_take_exclusive : (slots id : ℕ) (me : Me (Slot T E K) (View T E)) (s : ℕ) → s < 64 → MayTake me.0.at s
        → Allows (Ruled o bare tells key) slots id me s (λ n. either (eqb n 0) exclusively n) (took_exclusive o bare (step slots s 0 exclusively none) me)
    may_take_exclusive slots id me s h may t ruled long here small =
        exchanged (slice_index t.words s) 0 exclusively (λ n. (w : View T E) × (a : Act (Slot T E K)) × Valid t.homes me.1 a
        × Ruled o bare tells key (stepped t s n id me.1 w a) × took_exclusive o bare (step slots s 0 exclusively none) me (slice_index t.words s) (w, carried_after me.1 a))
        (λ zero.
        let m = ruled.0 in
        let sh = ruled.1 in
        let ok = ruled.3 in
        let h0 = key.journal.value.entries in
        let seat = seat_of_view bare key t m sh id me.0 here in
        let allowed = may_lock m id s me.0.at seat may (sym (word_is bare key t m sh s) ∙ zero) in
        let part = lock_exclusive_finds o h0 lawful m id s h ok allowed in
        let slot = part_there bare (get_elem? t.homes s) part.0 (sh.places s h ∙ part.1) in
        let y = slot.0 in
        let w : View T E = with_stripe me.0 s (Exclusive (bare y)) in
        let m' : LockState T E R = machine.stepped o m (plain (event.LockExclusive id s)) in
        let ok' = lock_exclusive_keeps o h0 lawful m id s h ok allowed in
        let found : get_elem? m.homes s ≡ some (some (bare y)) = part.1 ∙ ap (λ (z : T). some (some z)) (sym slot.2) in
        let shows = shown_after bare key t m sh s exclusively (λ e. omega arith) exclusively refl id w
        (with_hold (seat_at m.seats id) s (exclusive_with (get_elem? m.homes s)))
        (same_hold me.0.at (seat_at m.seats id) s (get_elem? m.homes s) (bare y) seat found)
        (slice_set t.homes s none) (slice_set m.homes s none) (length-set t.homes s none ∙ sh.slots) (elem-set_other t.homes s 64 none (λ e. omega arith))
        (placed_set bare t.homes m.homes s none none (omega (arith, sh.slots)) (omega (arith, ok.homes)) refl sh.places) in
        let views = views_after bare key m.journal t.views id me.0 w here refl refl refl may.quiet.live ruled.2 in
        let there = elem-set_same t.views id w (elem_within t.views id me.0 here) in
        let stands = stands_at bare o key m' ok' id w.at (seat_of_view bare key _ m' shows id w there) may.quiet.live in
        (w, takes s (Part y), slot.1, (m', shows, views, ok', kept_after tells t ruled.4 _ (slice_set t.homes s none) (elem-set_other t.homes s 64 none (λ e. omega arith)) id me.0 w here refl refl may.quiet.live refl), ((λ _. (y, record { view = refl; hand_is = refl; stands = stands })), (λ ne. absurd (ne zero)))))
        (λ ne. (me.0, keeps, tt, load_keeps bare o key tells t s id me here ruled, ((λ z. absurd (ne z)), (λ _. refl))))
