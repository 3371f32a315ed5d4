-- Taking a stripe exclusively keeps the machine sound.
use Rattle.std.proofs.Common.{◌≡◌, ℕ, ◌+◌, ◌<◌, List, refl, ap, sym, ◌∙◌, length-set, map, slice_set, le_refl, arith}
use Rattle.lock_core.specs.declared.machine.Event.TheVariants as event
use Rattle.lock_core.specs.Object.{Object, IsLawful}
use Rattle.lock_core.specs.Machine.{plain, LockState, exclusively, exclusive_with, seat_at, with_hold, IsAllowed, stepped}
use Rattle.lock_core.specs.Sound.{Grip, grip, IsSound}
use Rattle.lock_core.proofs.Totals.{elem-map}
use Rattle.lock_core.proofs.Stripes.{lock_exclusive}
use Rattle.lock_core.proofs.Columns.{calm_at, index-set_same, index-set_other, hold_at-set_same, hold_at-set_other, grip_is, stripe_same, live_elem, touches, replay_there}
use Rattle.lock_core.specs.Lists.{elem-set_same, elem-set_other}
use mathlib.Core.Option.{Option, some, none}
use lib.ListN.{get_elem?}

module _ {T E R : Type 0} (o : Object T E R) (h0 : List E) where
  pub lock_exclusive_keeps : IsLawful o → (m : LockState T E R) (v s : ℕ) → s < 64 → IsSound o h0 m → IsAllowed o m (plain (event.LockExclusive v s))
      → IsSound o h0 (stepped o m (plain (event.LockExclusive v s)))
  lock_exclusive_keeps lawful m v s h ok a =
      let x = seat_at m.seats v in
      let live = a.0 in
      let calm = calm_at x.latch s a.1.1.0 in
      let free = a.1.1.1.0 s (le_refl s) in
      let open_word = a.1.1.1.1.0 in
      let wide = (ok.seats v live).wide in
      let hold' = exclusive_with (get_elem? m.homes s) in
      let words' = slice_set m.words s exclusively in
      let here = elem-map (grip s) m.seats v x (live_elem m.seats v live) in
      let part = replay_there o lawful m.journal s h in
      let step = lock_exclusive _ _ _ _ _ (ok.stripes s h) v (grip s x) here free calm open_word part.0 part.1 in
      touches o h0 m ok v (with_hold x s hold') live
      (record { live = refl; number = refl; wide = length-set x.holds s hold'; journal = refl; seen = refl; mine = refl; olds = refl })
      s h words' (slice_set m.homes s none) (length-set m.words s _ ∙ ok.words) (λ i n _. index-set_other m.words s i _ n)
      (length-set m.homes s none ∙ ok.homes) (λ k n. elem-set_other m.homes s k none n)
      (λ k n. grip_is _ _ _ _ (hold_at-set_other x.holds s k hold' n) refl)
      (stripe_same (sym (index-set_same m.words s _ (omega (arith, ok.words)))) (sym (index-set_other m.words s (64 + s) _ (λ e. omega arith)))
      (sym (elem-set_same m.homes s none (omega (arith, ok.homes))))
      (ap (λ (g : Grip T). slice_set (map (grip s) m.seats) v g)
      (grip_is _ _ _ _ (sym (hold_at-set_same x.holds s hold' (omega (arith, wide)) ∙ ap (λ (z : Option (Option T)). exclusive_with z) step.0)) (sym calm)))
      step.1)

  -- the part is there to be taken
  pub lock_exclusive_finds : IsLawful o → (m : LockState T E R) (v s : ℕ) → s < 64 → IsSound o h0 m → IsAllowed o m (plain (event.LockExclusive v s))
      → (p : T) × (get_elem? m.homes s ≡ some (some p))
  lock_exclusive_finds lawful m v s h ok a =
      let x = seat_at m.seats v in
      let calm = calm_at x.latch s a.1.1.0 in
      let held = a.1.1.1.0 s (le_refl s) in
      let here = elem-map (grip s) m.seats v x (live_elem m.seats v a.0) in
      let part = replay_there o lawful m.journal s h in
      (part.0, (lock_exclusive _ _ _ _ _ (ok.stripes s h) v (grip s x) here held calm a.1.1.1.1.0 part.0 part.1).0)
