-- The step that takes a stripe shared.
use Rattle.std.proofs.Common.{◌≡◌, ℕ, eqb, ◌+◌, ◌-◌, ◌<◌, slice_index, refl, ap, sym, ◌∙◌, subst, arith}
use Rattle.lock_core.specs.declared.machine.Hold.TheVariants.{Shared}
use Rattle.lock_core.specs.declared.machine.Sitting.{Sitting}
use Rattle.lock_core.specs.declared.machine.Event.TheVariants as event
use Rattle.lock_core.specs.Object.{Object}
use Rattle.lock_core.specs.Machine as machine
use Rattle.lock_core.specs.Machine.{LockState, plain, exclusively, seat_at, with_hold, IsAllowed}
use Rattle.lock_core.specs.Lists.{elem-set_same}
use Rattle.lock_core.proofs.Totals.{elem_within}
use Rattle.lock_core.proofs.LockShared.{lock_shared_keeps}
use Rattle.commit_journal.specs.Keeper.{Told}
use Rattle.atomic_table.specs.Table.{Me, Act, keeps, step, stepped, Valid, Allows, carried_after}
use Rattle.atomic_table.proofs.Lists.{exchanged}
use Rattle.path_locks.specs.declared.rule.Slot.{Slot}
use Rattle.path_locks.specs.declared.rule.View.{View}
use Rattle.path_locks.specs.declared.rule.Opening.{Opening}
use Rattle.path_locks.specs.Rule.{Ruled}
use Rattle.path_locks.specs.Plays.{with_stripe, MayTake, took_shared}
use Rattle.path_locks.proofs.Shown.{seat_of_view, word_is, shown_after, views_after, load_keeps, stands_at}
use Rattle.path_locks.proofs.Kept.{kept_after}
use mathlib.Core.Option.{none}
use prog.Atomic.{either}

module _ {T E R : Type 0} (o : Object T E R) where
  may_lock : (m : LockState T E R) (v s : ℕ) (x : Sitting T E) → seat_at m.seats v ≡ x → MayTake x s → slice_index m.words s < exclusively - 1
      → IsAllowed o m (plain (event.LockShared v s))
  may_lock m v s x e may low =
      let t = subst (λ (z : Sitting T E). MayTake z s) (sym e) may in
      (t.quiet.live, (t.quiet.no_journal, (t.quiet.no_latch, (t.above, (low, tt)))))

  module _ {K : Type 0} (bare : T → T) (tells : K → Told E) (key : Opening E K) where
    pub may_take_shared : (slots id : ℕ) (me : Me (Slot T E K) (View T E)) (s n : ℕ) → s < 64 → MayTake me.0.at s → n < 4294967295
        → Allows (Ruled o bare tells key) slots id me s (λ k. either (eqb k n) (n + 1) k) (took_shared o (step slots s n (n + 1) none) me)
    may_take_shared slots id me s n h may few t ruled long here small =
        exchanged (slice_index t.words s) n (n + 1) (λ k. (w : View T E) × (a : Act (Slot T E K)) × Valid t.homes me.1 a
        × Ruled o bare tells key (stepped t s k id me.1 w a) × took_shared o (step slots s n (n + 1) none) me (slice_index t.words s) (w, carried_after me.1 a))
        (λ same.
        let m = ruled.0 in
        let sh = ruled.1 in
        let ok = ruled.3 in
        let h0 = key.journal.value.entries in
        let seat = seat_of_view bare key t m sh id me.0 here in
        let word : slice_index m.words s ≡ n = sym (word_is bare key t m sh s) ∙ same in
        let allowed = may_lock m id s me.0.at seat may (omega arith) in
        let w : View T E = with_stripe me.0 s Shared in
        let m' : LockState T E R = machine.stepped o m (plain (event.LockShared id s)) in
        let ok' = lock_shared_keeps o h0 m id s h ok allowed in
        let shows = shown_after bare key t m sh s (n + 1) (λ e. omega arith) (slice_index m.words s + 1) (ap (λ (k : ℕ). k + 1) (sym word)) id w
        (with_hold (seat_at m.seats id) s Shared) (ap (λ (z : Sitting T E). with_hold z s Shared) (sym seat))
        t.homes m.homes sh.slots refl sh.places in
        let views = views_after bare key m.journal t.views id me.0 w here refl refl refl may.quiet.live ruled.2 in
        let there = elem-set_same t.views id w (elem_within t.views id me.0 here) in
        let stands = stands_at bare o key m' ok' id w.at (seat_of_view bare key _ m' shows id w there) may.quiet.live in
        (w, keeps, tt, (m', shows, views, ok', kept_after tells t ruled.4 _ t.homes refl id me.0 w here refl refl may.quiet.live refl), ((λ _. record { view = refl; hand_is = refl; stands = stands }), (λ ne. absurd (ne same)))))
        (λ ne. (me.0, keeps, tt, load_keeps bare o key tells t s id me here ruled, ((λ z. absurd (ne z)), (λ _. refl))))
