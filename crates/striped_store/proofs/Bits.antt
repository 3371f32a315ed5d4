-- The bits of a number are gathered stripe by stripe.
use Rattle.std.proofs.Common.{◌≡◌, ◌↔◌, ℕ, ◌+◌, ◌*◌, ◌%◌, ◌^◌, ◌<◌, ◌≤◌, List, slice_get, Some, bit_or, w64, ap, sym, ◌∙◌, arith}
use Rattle.std.specs.Int.{bit_at}
use Rattle.std.proofs.lemmas.Nat.Bits.{bit_at_set_same, bit_at_set_other, bit_at-zero}
use Rattle.lock_core.specs.declared.object.LockMode.{LockMode}
use Rattle.path_locks.proofs.Below.{some_inj}
use mathlib.Core.Logic.{dite}
use native.Mathlib.Decide.{ℕ_discrete}

-- the bits below n are set exactly where the plan has the mode, and no others are
pub record AreBitsBelow (plan : List LockMode) (m : LockMode) (n bits : ℕ) : Type 0 where
  pub done : (k : ℕ) → k < n → ((bit_at bits k ≡ 1) ↔ (slice_get plan k ≡ Some m))
  pub none : (k : ℕ) → n ≤ k → bit_at bits k ≡ 0
  pub modes : (k : ℕ) → k < n → (d : LockMode) × (slice_get plan k ≡ Some d)

pub bits_none : (plan : List LockMode) (m : LockMode) → AreBitsBelow plan m 0 0
bits_none plan m = record { done = λ k h. absurd (omega arith); none = λ k h. bit_at-zero k; modes = λ k h. absurd (omega arith) }

module _ (plan : List LockMode) (m d : LockMode) (n bits bits' : ℕ) (within : n < 64) (there : slice_get plan n ≡ Some d) (below : AreBitsBelow plan m n bits) where
  modes_more : (k : ℕ) → k < n + 1 → (d : LockMode) × (slice_get plan k ≡ Some d)
  modes_more k h = dite (ℕ_discrete k n) (λ e. (d, ap (λ (i : ℕ). slice_get plan i) e ∙ there)) (λ ne. below.modes k (omega arith))

  pub bits_set : d ≡ m → bits' ≡ bit_or bits (1 * 2 ^ n % 2 ^ 64) → AreBitsBelow plan m (n + 1) bits'
  bits_set same is = record {
    done = λ k h. dite (ℕ_discrete k n)
        (λ e. (
          λ _. ap (λ (i : ℕ). slice_get plan i) e ∙ there ∙ ap (λ (z : LockMode). Some z) same,
          λ _. ap (λ (i : ℕ). bit_at bits' i) e ∙ ap (λ (b : ℕ). bit_at b n) is ∙ bit_at_set_same w64 bits n within,
        ))
        (λ ne.
        let old : bit_at bits' k ≡ bit_at bits k = ap (λ (b : ℕ). bit_at b k) is ∙ bit_at_set_other w64 bits n within k ne in
        let was = below.done k (omega arith) in
        (λ b. was.0 (sym old ∙ b), λ p. old ∙ was.1 p));
    none = λ k h. ap (λ (b : ℕ). bit_at b k) is ∙ bit_at_set_other w64 bits n within k (λ e. omega arith) ∙ below.none k (omega arith);
    modes = modes_more;
  }

  pub bits_left : (d ≡ m → ⊥) → bits' ≡ bits → AreBitsBelow plan m (n + 1) bits'
  bits_left other is = record {
    done = λ k h. dite (ℕ_discrete k n)
        (λ e. (
          λ b. absurd (let z : bit_at bits k ≡ 0 = below.none k (omega arith) in let w : bit_at bits k ≡ 1 = sym (ap (λ (b : ℕ). bit_at b k) is) ∙ b in omega arith),
          λ p. absurd (other (some_inj d m (sym there ∙ ap (λ (i : ℕ). slice_get plan i) (sym e) ∙ p))),
        ))
        (λ ne.
        let old : bit_at bits' k ≡ bit_at bits k = ap (λ (b : ℕ). bit_at b k) is in
        let was = below.done k (omega arith) in
        (λ b. was.0 (sym old ∙ b), λ p. old ∙ was.1 p));
    none = λ k h. ap (λ (b : ℕ). bit_at b k) is ∙ below.none k (omega arith);
    modes = modes_more;
  }
