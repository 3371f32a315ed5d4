-- The texts of permissions are read as what they spell, and nothing else is.
use Rattle.std.proofs.Common.{◌≡◌, ◌⊎◌, ℕ, suc, zero, ◌+◌, ◌-◌, ◌==◌, ◌<◌, true, false, cond, ◌&&◌, nat_lt, nat_le, [], ◌∷◌, None, Some, inl, inr, refl, subst, arith, lit<}
use Rattle.std.proofs.lemmas.Bool.{leb-true}
use Rattle.std.proofs.lemmas.Bool.Decides.{Decides-eqb, Decides-ltb}
use Rattle.std.proofs.lemmas.Option.{option_and_then_some}
use Rattle.acl_text.specs.PermTexts.{letter, perm_text, flag_of, perm_of, octal_digit}

-- a number below 8 is one of eight
pub below_8 : (P : ℕ → Type 0) → P 0 → P 1 → P 2 → P 3 → P 4 → P 5 → P 6 → P 7 → (n : ℕ) → n < 8 → P n
below_8 P a b c d e f g h zero l = a
below_8 P a b c d e f g h (suc zero) l = b
below_8 P a b c d e f g h (suc (suc zero)) l = c
below_8 P a b c d e f g h (suc (suc (suc zero))) l = d
below_8 P a b c d e f g h (suc (suc (suc (suc zero)))) l = e
below_8 P a b c d e f g h (suc (suc (suc (suc (suc zero))))) l = f
below_8 P a b c d e f g h (suc (suc (suc (suc (suc (suc zero)))))) l = g
below_8 P a b c d e f g h (suc (suc (suc (suc (suc (suc (suc zero))))))) l = h
below_8 P a b c d e f g h (suc (suc (suc (suc (suc (suc (suc (suc n)))))))) l = absurd (omega arith)

pub perm_of-text : (p : ℕ) → p < 8 → perm_of (letter 114 4 p) (letter 119 2 p) (letter 120 1 p) ≡ Some p
unfolding perm_of
perm_of-text = below_8 (λ p. perm_of (letter 114 4 p) (letter 119 2 p) (letter 120 1 p) ≡ Some p) refl refl refl refl refl refl refl refl

abbrev IsFlag : ℕ → ℕ → ℕ → ℕ → Type 0
IsFlag c value byte n = ((byte ≡ c) × (n ≡ value)) ⊎ ((byte ≡ 45) × (n ≡ 0))

flag_is : (c value byte n : ℕ) → flag_of c value byte ≡ Some n → IsFlag c value byte n
flag_is c value byte n =
    elim (byte == c) as (λ t. byte == c ≡ t → cond t (Some value) (cond (byte == 45) (Some 0) None) ≡ Some n → IsFlag c value byte n) [
      | true ↦ λ is e. inl ((Decides-eqb byte c).0 is, (cc))
      | false ↦ λ _ e. elim (byte == 45) as (λ t. byte == 45 ≡ t → cond t (Some 0) None ≡ Some n → IsFlag c value byte n) [
        | true ↦ λ is e. inr ((Decides-eqb byte 45).0 is, (cc))
        | false ↦ λ is e. (cc)
      ] refl e
    ] refl

letters : (a b c r w x : ℕ) → IsFlag 114 4 a r → IsFlag 119 2 b w → IsFlag 120 1 c x → (r + w + x < 8) × (a ∷ b ∷ c ∷ [] ≡ perm_text (r + w + x))
letters a b c r w x (inl f) (inl g) (inl h) = rw (f.0, f.1, g.0, g.1, h.0, h.1) (lit< tt, refl)
letters a b c r w x (inl f) (inl g) (inr h) = rw (f.0, f.1, g.0, g.1, h.0, h.1) (lit< tt, refl)
letters a b c r w x (inl f) (inr g) (inl h) = rw (f.0, f.1, g.0, g.1, h.0, h.1) (lit< tt, refl)
letters a b c r w x (inl f) (inr g) (inr h) = rw (f.0, f.1, g.0, g.1, h.0, h.1) (lit< tt, refl)
letters a b c r w x (inr f) (inl g) (inl h) = rw (f.0, f.1, g.0, g.1, h.0, h.1) (lit< tt, refl)
letters a b c r w x (inr f) (inl g) (inr h) = rw (f.0, f.1, g.0, g.1, h.0, h.1) (lit< tt, refl)
letters a b c r w x (inr f) (inr g) (inl h) = rw (f.0, f.1, g.0, g.1, h.0, h.1) (lit< tt, refl)
letters a b c r w x (inr f) (inr g) (inr h) = rw (f.0, f.1, g.0, g.1, h.0, h.1) (lit< tt, refl)

-- three letters that are read spell what is read
pub perm_is : (a b c p : ℕ) → perm_of a b c ≡ Some p → (p < 8) × (a ∷ b ∷ c ∷ [] ≡ perm_text p)
unfolding perm_of
perm_is a b c p e =
    option_and_then_some _ (flag_of 114 4 a) p e (λ r is e.
    option_and_then_some _ (flag_of 119 2 b) p e (λ w is' e.
    option_and_then_some _ (flag_of 120 1 c) p e (λ x is'' e.
    let sum : r + w + x ≡ p = (cc) in
    subst (λ n. (n < 8) × (a ∷ b ∷ c ∷ [] ≡ perm_text n)) sum (letters a b c r w x (flag_is 114 4 a r is) (flag_is 119 2 b w is') (flag_is 120 1 c x is'')))))

pub octal_digit-text : (p : ℕ) → p < 8 → octal_digit (48 + p) ≡ Some p
octal_digit-text = below_8 (λ p. octal_digit (48 + p) ≡ Some p) refl refl refl refl refl refl refl refl

pub octal_digit_is : (b p : ℕ) → octal_digit b ≡ Some p → (p < 8) × (b ≡ 48 + p)
octal_digit_is b p =
    elim (nat_le 48 b) as (λ t. nat_le 48 b ≡ t → cond (t && nat_lt b 56) (Some (b - 48)) None ≡ Some p → (p < 8) × (b ≡ 48 + p)) [
      | true ↦ λ low. elim (nat_lt b 56) as (λ t. nat_lt b 56 ≡ t → cond t (Some (b - 48)) None ≡ Some p → (p < 8) × (b ≡ 48 + p)) [
        | true ↦ λ high e.
            let at_least = leb-true 48 b low in
            let below = (Decides-ltb b 56).0 high in
            let is : b - 48 ≡ p = (cc) in
            (omega arith, omega arith)
        | false ↦ λ high e. (cc)
      ] refl
      | false ↦ λ low e. (cc)
    ] refl
