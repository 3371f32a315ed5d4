-- Giving back a part that was taken under its latch keeps the machine sound.
use Rattle.std.proofs.Common.{◌≡◌, ℕ, ◌+◌, ◌<◌, true, List, refl, ap, sym, ◌∙◌, length-set, slice_set, eq-eqb, ne_eqb, None, arith}
use Rattle.std.specs.Prelude as std
use Rattle.lock_core.specs.declared.machine.Event.TheVariants as event
use Rattle.lock_core.specs.Object.{Object}
use Rattle.lock_core.specs.Machine.{plain, LockState, hold_at, note_of, seat_at, with_latch, IsAllowed, stepped}
use Rattle.lock_core.specs.Sound.{grip, is_at, IsSound}
use Rattle.lock_core.proofs.Totals.{elem-map}
use Rattle.lock_core.proofs.Stripes.{latch_give}
use Rattle.lock_core.proofs.Columns.{index-set_same, index-set_other, grip_is, stripe_same, live_elem, touches}
use Rattle.lock_core.specs.Lists.{elem-set_same, elem-set_other}

module _ {T E R : Type 0} (o : Object T E R) (h0 : List E) where
  pub latch_give_keeps : (m : LockState T E R) (v s : ℕ) → s < 64 → IsSound o h0 m → IsAllowed o m (plain (event.LatchGive v s))
      → IsSound o h0 (stepped o m (plain (event.LatchGive v s)))
  latch_give_keeps m v s h ok a =
      let x = seat_at m.seats v in
      let live = a.0 in
      let latched = a.1.0 in
      let note = note_of (hold_at x.holds s) in
      let taken : is_at x.latch s ≡ true = ap (λ (z : std.Option ℕ). is_at z s) latched ∙ eq-eqb s s refl in
      let words' = slice_set m.words (64 + s) 0 in
      let here = elem-map (grip s) m.seats v x (live_elem m.seats v live) in
      touches o h0 m ok v (with_latch x None) live
      (record { live = refl; number = refl; wide = refl; journal = refl; seen = refl; mine = refl; olds = refl })
      s h words' (slice_set m.homes s note) (length-set m.words (64 + s) _ ∙ ok.words) (λ i _ n. index-set_other m.words (64 + s) i _ n)
      (length-set m.homes s note ∙ ok.homes) (λ k n. elem-set_other m.homes s k note n)
      (λ k n. grip_is _ _ _ _ refl (sym (ap (λ (z : std.Option ℕ). is_at z k) latched ∙ ne_eqb s k (λ e. n (sym e)))))
      (stripe_same (sym (index-set_other m.words (64 + s) s _ (λ e. omega arith))) (sym (index-set_same m.words (64 + s) _ (omega (arith, ok.words))))
      (sym (elem-set_same m.homes s note (omega (arith, ok.homes)))) refl
      (latch_give _ _ _ _ _ (ok.stripes s h) v (grip s x) here taken))
