-- Bits of permissions: what a test on two numbers says of each of their bits.
use Rattle.std.proofs.Common.{◌≡◌, ℕ, zero, suc, ◌+◌, ◌-◌, ◌<◌, min, true, ◌↔◌, inl, inr, refl, subst, ◌∙◌, arith}
use Rattle.std.specs.Prelude.{bit_and, IsBitSet}
use Rattle.std.specs.Int.{bit_at}
use Rattle.std.proofs.lemmas.Bool.{eqb-true, eq-eqb, cases_lt}
use Rattle.std.proofs.lemmas.Nat.{bit_set_by_shift}
use Rattle.std.proofs.lemmas.Nat.Bits.{shr_and_one, bit_at_and, bit_at-lt, bit_at_above, same_from_bits}
use Rattle.acl_text.proofs.PermLemmas.{below_8}
use Rattle.namespace_model.specs.Access.{is_within, open_bits}
use Rattle.acl_check.specs.AccessLaws.{HasAll, IsOpen}

-- a bit is set exactly where its digit is 1
pub set_digit : (n k : ℕ) → (bit_at n k ≡ 1) ↔ IsBitSet n k
set_digit n k = let P : ℕ → Type 0 = λ d. (d ≡ 1) ↔ IsBitSet n k in subst P (shr_and_one n k) (bit_set_by_shift n k)

least : (a b : ℕ) → a < 2 → b < 2 → (a ≡ 1 → b ≡ 1) → min a b ≡ a
least zero b la lb h = omega arith
least (suc zero) b la lb h = let one : b ≡ 1 = h refl in omega arith
least (suc (suc a)) b la lb h = absurd (omega arith)

-- the test that all wanted bits are there says so of each bit
pub within_has : (want have : ℕ) → is_within want have ≡ true → HasAll have want
within_has want have test bit set =
    let same : bit_and want have ≡ want = eqb-true _ _ test in
    let one : bit_at want bit ≡ 1 = (set_digit want bit).1 set in
    let cut : bit_at (bit_and want have) bit ≡ min (bit_at want bit) (bit_at have bit) = bit_at_and want have bit in
    let kept : bit_at want bit ≡ min (bit_at want bit) (bit_at have bit) = subst (λ n. bit_at n bit ≡ min (bit_at want bit) (bit_at have bit)) same cut in
    let small = bit_at-lt have bit in
    (set_digit have bit).0 (omega arith)

pub has_within : (want have : ℕ) → HasAll have want → is_within want have ≡ true
has_within want have all =
    eq-eqb _ _ (same_from_bits _ _ (λ k. bit_at_and want have k
    ∙ least (bit_at want k) (bit_at have k) (bit_at-lt want k) (bit_at-lt have k) (λ one. (set_digit have k).1 (all k ((set_digit want k).0 one)))))

-- a bit of what two give is a bit of both
pub both_bits : (a b k : ℕ) → IsBitSet (bit_and a b) k → IsBitSet a k × IsBitSet b k
both_bits a b k set =
    let one : bit_at (bit_and a b) k ≡ 1 = (set_digit (bit_and a b) k).1 set in
    let cut : bit_at (bit_and a b) k ≡ min (bit_at a k) (bit_at b k) = bit_at_and a b k in
    let small = bit_at-lt a k in
    let little = bit_at-lt b k in
    ((set_digit a k).0 (omega arith), (set_digit b k).0 (omega arith))

pub bit_of_both : (a b k : ℕ) → IsBitSet a k → IsBitSet b k → IsBitSet (bit_and a b) k
bit_of_both a b k x y =
    let one : bit_at a k ≡ 1 = (set_digit a k).1 x in
    let two : bit_at b k ≡ 1 = (set_digit b k).1 y in
    let cut : bit_at (bit_and a b) k ≡ min (bit_at a k) (bit_at b k) = bit_at_and a b k in
    (set_digit (bit_and a b) k).0 (omega arith)

pub has_both : (a b want : ℕ) → HasAll (bit_and a b) want ↔ (HasAll a want × HasAll b want)
has_both a b want = (
  λ all. (λ k set. (both_bits a b k (all k set)).0, λ k set. (both_bits a b k (all k set)).1),
  λ parts k set. bit_of_both a b k (parts.0 k set) (parts.1 k set),
)

-- a bit of a number below 8 is one of three
small_bit : (n k : ℕ) → n < 8 → IsBitSet n k → k < 3
small_bit n k small set =
    elim (cases_lt k 3) [
      | inl low ↦ low
      | inr high ↦ let zero_there : bit_at n k ≡ 0 = bit_at_above n 3 k small high in let one : bit_at n k ≡ 1 = (set_digit n k).1 set in absurd (omega arith)
    ]

below_3 : (P : ℕ → Type 0) → P 0 → P 1 → P 2 → (k : ℕ) → k < 3 → P k
below_3 P a b c zero l = a
below_3 P a b c (suc zero) l = b
below_3 P a b c (suc (suc zero)) l = c
below_3 P a b c (suc (suc (suc k))) l = absurd (omega arith)

-- the bits that a umask leaves open
left_open : (u : ℕ) → u < 8 → (k : ℕ) → k < 3 → bit_at (7 - u) k + bit_at u k ≡ 1
left_open = below_8 (λ u. (k : ℕ) → k < 3 → bit_at (7 - u) k + bit_at u k ≡ 1)
    (below_3 (λ k. bit_at 7 k + bit_at 0 k ≡ 1) refl refl refl)
    (below_3 (λ k. bit_at 6 k + bit_at 1 k ≡ 1) refl refl refl)
    (below_3 (λ k. bit_at 5 k + bit_at 2 k ≡ 1) refl refl refl)
    (below_3 (λ k. bit_at 4 k + bit_at 3 k ≡ 1) refl refl refl)
    (below_3 (λ k. bit_at 3 k + bit_at 4 k ≡ 1) refl refl refl)
    (below_3 (λ k. bit_at 2 k + bit_at 5 k ≡ 1) refl refl refl)
    (below_3 (λ k. bit_at 1 k + bit_at 6 k ≡ 1) refl refl refl)
    (below_3 (λ k. bit_at 0 k + bit_at 7 k ≡ 1) refl refl refl)

pub open_is : (mode umask : ℕ) → mode < 8 → umask < 8 → IsOpen mode umask (open_bits mode umask)
open_is mode umask m u = record {
  of_mode = λ k set. (both_bits mode (7 - umask) k set).0;
  not_of_umask = λ k set taken.
      let within : k < 3 = small_bit umask k u taken in
      let one : bit_at (7 - umask) k ≡ 1 = (set_digit (7 - umask) k).1 (both_bits mode (7 - umask) k set).1 in
      let two : bit_at umask k ≡ 1 = (set_digit umask k).1 taken in
      let sum = left_open umask u k within in
      omega arith;
  all = λ k set free.
      let within : k < 3 = small_bit mode k m set in
      let sum : bit_at (7 - umask) k + bit_at umask k ≡ 1 = left_open umask u k within in
      let no : bit_at umask k ≡ 1 → ⊥ = λ one. free ((set_digit umask k).0 one) in
      let small = bit_at-lt umask k in
      bit_of_both mode (7 - umask) k set ((set_digit (7 - umask) k).0 (omega (arith, no)));
}

-- without a mask no bit is taken
pub all_bits : (want : ℕ) → want < 8 → HasAll 7 want
all_bits want small k set =
    below_3 (λ k. IsBitSet 7 k) ((set_digit 7 0).0 refl) ((set_digit 7 1).0 refl) ((set_digit 7 2).0 refl) k (small_bit want k small set)
