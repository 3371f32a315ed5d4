-- Giving a part back and holding its stripe shared keeps the machine sound.
use Rattle.std.proofs.Common.{ℕ, ◌+◌, ◌<◌, List, refl, ap, sym, ◌∙◌, length-set, map, slice_set, arith}
use Rattle.lock_core.specs.declared.machine.Event.TheVariants as event
use Rattle.lock_core.specs.Object.{Object}
use Rattle.lock_core.specs.Machine.{plain, LockState, hold_at, note_of, downgraded, seat_at, with_hold, IsAllowed, stepped}
use Rattle.lock_core.specs.Sound.{Grip, grip, IsSound}
use Rattle.lock_core.proofs.Totals.{elem-map}
use Rattle.lock_core.proofs.Stripes.{downgrade}
use Rattle.lock_core.proofs.Columns.{calm_at, index-set_same, index-set_other, hold_at-set_same, hold_at-set_other, grip_is, stripe_same, live_elem, touches}
use Rattle.lock_core.specs.Lists.{elem-set_same, elem-set_other}

module _ {T E R : Type 0} (o : Object T E R) (h0 : List E) where
  pub downgrade_keeps : (m : LockState T E R) (v s : ℕ) → s < 64 → IsSound o h0 m → IsAllowed o m (plain (event.Downgrade v s))
      → IsSound o h0 (stepped o m (plain (event.Downgrade v s)))
  downgrade_keeps m v s h ok a =
      let x = seat_at m.seats v in
      let live = a.0 in
      let calm = calm_at x.latch s a.1.1.0 in
      let held = a.1.1.1.0 in
      let wide = (ok.seats v live).wide in
      let note = note_of (hold_at x.holds s) in
      let hold' = downgraded (hold_at x.holds s) in
      let words' = slice_set m.words s 1 in
      let here = elem-map (grip s) m.seats v x (live_elem m.seats v live) in
      touches o h0 m ok v (with_hold x s hold') live
      (record { live = refl; number = refl; wide = length-set x.holds s hold'; journal = refl; seen = refl; mine = refl; olds = refl })
      s h words' (slice_set m.homes s note) (length-set m.words s _ ∙ ok.words) (λ i n _. index-set_other m.words s i _ n)
      (length-set m.homes s note ∙ ok.homes) (λ k n. elem-set_other m.homes s k note n)
      (λ k n. grip_is _ _ _ _ (hold_at-set_other x.holds s k hold' n) refl)
      (stripe_same (sym (index-set_same m.words s _ (omega (arith, ok.words)))) (sym (index-set_other m.words s (64 + s) _ (λ e. omega arith)))
      (sym (elem-set_same m.homes s note (omega (arith, ok.homes))))
      (ap (λ (g : Grip T). slice_set (map (grip s) m.seats) v g)
      (grip_is _ _ _ _ (sym (hold_at-set_same x.holds s hold' (omega (arith, wide)))) (sym calm)))
      (downgrade _ _ _ _ _ (ok.stripes s h) v (grip s x) here held calm))
