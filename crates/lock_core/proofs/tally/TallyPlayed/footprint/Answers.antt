use Rattle.std.proofs.Common.{◌≡◌, ◌≢◌, ℕ, zero, suc, ◌<◌, Bool, false, nat_eq, List, [], ◌∷◌, length, slice_get, slice_set, replicate, Some, refl, ap, sym, ◌∙◌, eq-eqb, ne_eqb, length-set, arith}
use Rattle.lock_core.specs.declared.object.LockMode.{LockMode}
use Rattle.lock_core.specs.declared.object.LockMode.TheVariants.{None as Unlocked, Shared, Exclusive}
use Rattle.lock_core.specs.Object.{mode_of}
use Rattle.lock_core.proofs.tally.TallyPlayed.footprint.Goals as goal
use lib.ListN.{length-replicate}
use mathlib.Core.Logic.{dite}
use native.Mathlib.Decide.{ℕ_discrete}

get-set_same : (l : List LockMode) (i : ℕ) (a : LockMode) → i < length l → slice_get (slice_set l i a) i ≡ Some a
get-set_same [] i a h = absurd (omega arith)
get-set_same (x ∷ xs) zero a h = refl
get-set_same (x ∷ xs) (suc i) a h = get-set_same xs i a (omega arith)

get-set_other : (l : List LockMode) (i j : ℕ) (a : LockMode) → j ≢ i → slice_get (slice_set l i a) j ≡ slice_get l j
get-set_other [] i j a n = refl
get-set_other (x ∷ xs) zero zero a n = absurd (n refl)
get-set_other (x ∷ xs) zero (suc j) a n = refl
get-set_other (x ∷ xs) (suc i) zero a n = refl
get-set_other (x ∷ xs) (suc i) (suc j) a n = get-set_other xs i j a (λ e. n (ap suc e))

get-replicate : (n k : ℕ) (a : LockMode) → k < n → slice_get (replicate n a) k ≡ Some a
get-replicate zero k a h = absurd (omega arith)
get-replicate (suc n) zero a h = refl
get-replicate (suc n) (suc k) a h = get-replicate n k a (omega arith)

modes_at : (all : List LockMode) (r w k : ℕ) → length all ≡ 64 → r < 64 → w < 64 → slice_get all k ≡ Some Unlocked
    → slice_get (slice_set (slice_set all r Shared) w Exclusive) k ≡ Some (mode_of (nat_eq k w) (nat_eq k r))
modes_at all r w k l hr hw at = dite (ℕ_discrete k w)
    (λ e. ap (λ (i : ℕ). slice_get (slice_set (slice_set all r Shared) w Exclusive) i) e
    ∙ get-set_same (slice_set all r Shared) w Exclusive (omega (arith, length-set all r Shared))
    ∙ sym (ap (λ (b : Bool). Some (mode_of b (nat_eq k r))) (eq-eqb k w e)))
    (λ ne. get-set_other (slice_set all r Shared) w k Exclusive ne ∙ dite (ℕ_discrete k r)
    (λ e. ap (λ (i : ℕ). slice_get (slice_set all r Shared) i) e ∙ get-set_same all r Shared (omega arith)
    ∙ sym (ap (λ (b : Bool). Some (mode_of b (nat_eq k r))) (ne_eqb k w ne) ∙ ap (λ (b : Bool). Some (mode_of false b)) (eq-eqb k r e)))
    (λ nf. get-set_other all r k Shared nf ∙ at
    ∙ sym (ap (λ (b : Bool). Some (mode_of b (nat_eq k r))) (ne_eqb k w ne) ∙ ap (λ (b : Bool). Some (mode_of false b)) (ne_eqb k r nf))))

pub returns : goal.returns
returns c k h = modes_at (replicate 64 Unlocked) c.args.entry.now.reads c.args.entry.now.writes k (length-replicate {A = LockMode} 64 Unlocked)
    c.args.entry.now.reads_below c.args.entry.now.writes_below (get-replicate 64 k Unlocked h)
