-- Where every live seat holds nothing, every part is home.
use Rattle.std.proofs.Common.{◌≡◌, ℕ, zero, suc, ◌<◌, Bool, true, false, List, map, refl, ap, sym, ◌∙◌, arith}
use Rattle.lock_core.specs.declared.machine.Hold.TheVariants.{Free}
use Rattle.lock_core.specs.declared.machine.Sitting.{Sitting}
use Rattle.lock_core.specs.Object.{Object, replay}
use Rattle.lock_core.specs.Machine.{LockState, hold_at, seat_at, IsIdle}
use Rattle.lock_core.specs.Sound.{total, one_if, Grip, grip, exclusive_in, is_at, IsSound}
use Rattle.lock_core.proofs.Totals.{total_found, at_map}
use Rattle.lock_core.proofs.Columns.{calm_at}
use Rattle.lock_core.proofs.CoreMoves.{seat_at_there}
use Rattle.lock_core.proofs.Split.{hold_at-free}
use Rattle.lock_core.proofs.Join.{free_is}
use mathlib.Core.Option.{some}
use lib.ListN.{get_elem?}

module _ {T E R : Type 0} (o : Object T E R) (h0 : List E) (m : LockState T E R) (ok : IsSound o h0 m)
    (idle : (j : ℕ) → (seat_at m.seats j).live ≡ true → IsIdle (seat_at m.seats j)) where
  -- no seat holds a stripe or has its latch
  nothing : (j k : ℕ) → (hold_at (seat_at m.seats j).holds k ≡ Free) × (is_at (seat_at m.seats j).latch k ≡ false)
  nothing j k = by_life (seat_at m.seats j).live refl
    where
      by_life : (b : Bool) → (seat_at m.seats j).live ≡ b → (hold_at (seat_at m.seats j).holds k ≡ Free) × (is_at (seat_at m.seats j).latch k ≡ false)
      by_life true e = let i = idle j e in (free_is _ (i.no_hold k), calm_at _ k i.no_latch)
      by_life false e =
          let d = ok.dead j e in
          (ap (λ (z : Sitting T E). hold_at z.holds k) d ∙ hold_at-free k, ap (λ (z : Sitting T E). is_at z.latch k) d)

  none_of : (f : Grip T → ℕ) (k : ℕ) → ((g : Grip T) → g.hold ≡ Free → g.latched ≡ false → f g ≡ 0) → total f (map (grip k) m.seats) ≡ 0
  none_of f k zero_at = from (total f (map (grip k) m.seats)) refl
    where
      found : 0 < total f (map (grip k) m.seats) → ⊥
      found h =
          let t = total_found f (map (grip k) m.seats) h in
          let a = at_map (grip k) m.seats t.0 t.1 t.2 in
          let n = nothing t.0 k in
          let s = seat_at_there m.seats t.0 a.0 a.1 in
          let z = zero_at t.1
          (ap (λ (g : Grip T). g.hold) (sym a.2) ∙ ap (λ (x : Sitting T E). hold_at x.holds k) (sym s) ∙ n.0)
          (ap (λ (g : Grip T). g.latched) (sym a.2) ∙ ap (λ (x : Sitting T E). is_at x.latch k) (sym s) ∙ n.1) in
          let p = t.3 in
          omega arith

      from : (n : ℕ) → n ≡ total f (map (grip k) m.seats) → total f (map (grip k) m.seats) ≡ 0
      from zero e = sym e
      from (suc n) e = absurd (found (omega arith))

  pub all_home : (k : ℕ) → k < 64 → get_elem? m.homes k ≡ some (get_elem? (replay o m.journal) k)
  all_home k h =
      let c = ok.stripes k h in
      let x = none_of (λ (g : Grip T). exclusive_in g.hold) k (λ g free calm. ap exclusive_in free) in
      let n = none_of (λ (g : Grip T). one_if g.latched) k (λ g free calm. ap one_if calm) in
      let l = c.counts.latch_counted in
      c.at_home (omega arith)
