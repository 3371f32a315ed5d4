-- Sums over a list in which one element changes, and lists read by `get_elem?`.
use Rattle.std.proofs.Common.{◌≡◌, ◌≢◌, ℕ, zero, suc, ◌+◌, ◌<◌, ◌≤◌, ◌⊎◌, List, [], ◌∷◌, ◌++◌, length, map, slice_set, refl, ap, sym, inl, inr, ⊎_elim, arith}
use Rattle.lock_core.specs.Sound.{total}
use mathlib.Core.Option.{some, some-injective, some-ne-none}
use lib.ListN.{get_elem?}

module _ {A : Type 0} where
  pub total-set : (f : A → ℕ) (xs : List A) (i : ℕ) (x y : A) → get_elem? xs i ≡ some x → total f (slice_set xs i y) + f x ≡ total f xs + f y
  total-set f [] i x y e = absurd (some-ne-none x (sym e))
  total-set f (z ∷ zs) zero x y e = let p = ap f (some-injective z x e) in omega arith
  total-set f (z ∷ zs) (suc i) x y e = omega (arith, total-set f zs i x y e)

  pub total_at : (f : A → ℕ) (xs : List A) (i : ℕ) (x : A) → get_elem? xs i ≡ some x → f x ≤ total f xs
  total_at f [] i x e = absurd (some-ne-none x (sym e))
  total_at f (z ∷ zs) zero x e = let p = ap f (some-injective z x e) in omega arith
  total_at f (z ∷ zs) (suc i) x e = omega (arith, total_at f zs i x e)

  pub total_two : (f : A → ℕ) (xs : List A) (i j : ℕ) (x y : A) → i ≢ j → get_elem? xs i ≡ some x → get_elem? xs j ≡ some y → f x + f y ≤ total f xs
  total_two f [] i j x y n e h = absurd (some-ne-none x (sym e))
  total_two f (z ∷ zs) zero zero x y n e h = absurd (n refl)
  total_two f (z ∷ zs) zero (suc j) x y n e h = let p = ap f (some-injective z x e) in omega (arith, total_at f zs j y h)
  total_two f (z ∷ zs) (suc i) zero x y n e h = let p = ap f (some-injective z y h) in omega (arith, total_at f zs i x e)
  total_two f (z ∷ zs) (suc i) (suc j) x y n e h = omega (arith, total_two f zs i j x y (λ p. n (ap suc p)) e h)

  pub total-append : (f : A → ℕ) (xs ys : List A) → total f (xs ++ ys) ≡ total f xs + total f ys
  total-append f [] ys = omega arith
  total-append f (x ∷ xs) ys = omega (arith, total-append f xs ys)

  found_in : (f : A → ℕ) (x : A) (xs : List A) → (0 < total f xs → (j : ℕ) × (y : A) × (get_elem? xs j ≡ some y) × (0 < f y)) → (n : ℕ) → n ≡ f x
      → 0 < f x + total f xs → (j : ℕ) × (y : A) × (get_elem? (x ∷ xs) j ≡ some y) × (0 < f y)
  found_in f x xs more zero e h = let t = more (omega arith) in (suc t.0, t.1, t.2, t.3)
  found_in f x xs more (suc n) e h = (0, x, refl, omega arith)

  -- where a sum is above 0, an element has some of it
  pub total_found : (f : A → ℕ) (xs : List A) → 0 < total f xs → (j : ℕ) × (x : A) × (get_elem? xs j ≡ some x) × (0 < f x)
  total_found f [] h = absurd (omega arith)
  total_found f (x ∷ xs) h = found_in f x xs (total_found f xs) (f x) refl h

  pub at_set : (l : List A) (i j : ℕ) (a b : A) → get_elem? (slice_set l i a) j ≡ some b → ((j ≡ i) × (a ≡ b)) ⊎ ((j ≢ i) × (get_elem? l j ≡ some b))
  at_set [] i j a b e = absurd (some-ne-none b (sym e))
  at_set (x ∷ xs) zero zero a b e = inl (refl, some-injective a b e)
  at_set (x ∷ xs) zero (suc j) a b e = inr ((λ h. omega arith), e)
  at_set (x ∷ xs) (suc i) zero a b e = inr ((λ h. omega arith), e)
  at_set (x ∷ xs) (suc i) (suc j) a b e = ⊎_elim (λ t. inl (ap suc t.0, t.1)) (λ t. let n = t.0 in inr ((λ h. n (omega arith)), t.1)) (at_set xs i j a b e)

  pub set_again : (l : List A) (i : ℕ) (a : A) → get_elem? l i ≡ some a → slice_set l i a ≡ l
  set_again [] i a e = refl
  set_again (x ∷ xs) zero a e = λ k. sym (some-injective x a e) k ∷ xs
  set_again (x ∷ xs) (suc i) a e = λ k. x ∷ set_again xs i a e k

  pub elem_there : (l : List A) (i : ℕ) → i < length l → (a : A) × (get_elem? l i ≡ some a)
  elem_there [] i h = absurd (omega arith)
  elem_there (x ∷ xs) zero h = (x, refl)
  elem_there (x ∷ xs) (suc i) h = elem_there xs i (omega arith)

  pub elem_within : (l : List A) (i : ℕ) (a : A) → get_elem? l i ≡ some a → i < length l
  elem_within [] i a e = absurd (some-ne-none a (sym e))
  elem_within (x ∷ xs) zero a e = omega arith
  elem_within (x ∷ xs) (suc i) a e = omega (arith, elem_within xs i a e)

  pub elem-append : (l m : List A) (i : ℕ) → i < length l → get_elem? (l ++ m) i ≡ get_elem? l i
  elem-append [] m i h = absurd (omega arith)
  elem-append (x ∷ xs) m zero h = refl
  elem-append (x ∷ xs) m (suc i) h = elem-append xs m i (omega arith)

  pub at_snoc : (l : List A) (a b : A) (j : ℕ) → get_elem? (l ++ a ∷ []) j ≡ some b → ((j < length l) × (get_elem? l j ≡ some b)) ⊎ ((j ≡ length l) × (a ≡ b))
  at_snoc [] a b zero e = inr (refl, some-injective a b e)
  at_snoc [] a b (suc j) e = absurd (some-ne-none b (sym e))
  at_snoc (x ∷ xs) a b zero e = inl (omega arith, e)
  at_snoc (x ∷ xs) a b (suc j) e = ⊎_elim (λ t. let h = t.0 in inl (omega arith, t.1)) (λ t. inr (ap suc t.0, t.1)) (at_snoc xs a b j e)

  pub elem-snoc : (l : List A) (a : A) → get_elem? (l ++ a ∷ []) (length l) ≡ some a
  elem-snoc [] a = refl
  elem-snoc (x ∷ xs) a = elem-snoc xs a

module _ {A B : Type 0} where
  pub map-set : (f : A → B) (l : List A) (i : ℕ) (a : A) → map f (slice_set l i a) ≡ slice_set (map f l) i (f a)
  map-set f [] i a = refl
  map-set f (x ∷ xs) zero a = refl
  map-set f (x ∷ xs) (suc i) a = ap {B = List B} (λ r. f x ∷ r) (map-set f xs i a)

  pub elem-map : (f : A → B) (l : List A) (i : ℕ) (a : A) → get_elem? l i ≡ some a → get_elem? (map f l) i ≡ some (f a)
  elem-map f [] i a e = absurd (some-ne-none a (sym e))
  elem-map f (x ∷ xs) zero a e = ap (λ (y : A). some (f y)) (some-injective x a e)
  elem-map f (x ∷ xs) (suc i) a e = elem-map f xs i a e

  pub at_map : (f : A → B) (l : List A) (i : ℕ) (b : B) → get_elem? (map f l) i ≡ some b → (a : A) × (get_elem? l i ≡ some a) × (f a ≡ b)
  at_map f [] i b e = absurd (some-ne-none b (sym e))
  at_map f (x ∷ xs) zero b e = (x, refl, some-injective (f x) b e)
  at_map f (x ∷ xs) (suc i) b e = at_map f xs i b e

  pub total-map : (g : B → ℕ) (f : A → B) (xs : List A) → total g (map f xs) ≡ total (λ x. g (f x)) xs
  total-map g f [] = refl
  total-map g f (x ∷ xs) = ap (λ (n : ℕ). g (f x) + n) (total-map g f xs)
