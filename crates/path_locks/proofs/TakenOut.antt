-- Slots are emptied one after the other.
use Rattle.std.proofs.Common.{◌≡◌, ℕ, zero, suc, ◌+◌, ◌<◌, Bool, false, List, [], ◌∷◌, ◌++◌, length, slice_get, slice_set, get_or, refl, ap, sym, ◌∙◌, arith}
use Rattle.std.specs.Prelude as std
use Rattle.std.specs.Slots.Ownership.{Filled}
use Rattle.std.proofs.lemmas.List.{get_or-set_other}
use Rattle.std.proofs.lemmas.Option.{none-some}
use Rattle.path_locks.specs.declared.rule.Slot.{Slot}
use Rattle.path_locks.specs.declared.rule.Slot.TheVariants.{Empty, Part, Book}
use mathlib.Core.Option.{some, some-injective}
use mathlib.Core.Logic.{dite}
use native.Mathlib.Decide.{ℕ_discrete}
use lib.ListN.{get_elem?}

set_false : (fs : List Bool) (n : ℕ) → get_or (slice_set fs n false) n false ≡ false
set_false [] n = refl
set_false (f ∷ fs) zero = refl
set_false (f ∷ fs) (suc n) = set_false fs n

pub filled_next : (fs fs' : List Bool) (n : ℕ) → fs' ≡ slice_set fs n false → Filled fs n 65 → Filled fs' (n + 1) 65
filled_next fs fs' n e f k l h = ap (λ (z : List Bool). get_or z k false) e ∙ get_or-set_other fs n k false false (λ z. omega arith) ∙ f k (omega arith) h

pub emptied_next : (fs fs' : List Bool) (n : ℕ) → fs' ≡ slice_set fs n false → ((k : ℕ) → k < n → get_or fs k false ≡ false) → (k : ℕ) → k < n + 1 → get_or fs' k false ≡ false
emptied_next fs fs' n e f k h = ap (λ (z : List Bool). get_or z k false) e ∙ dite (ℕ_discrete k n)
    (λ s. ap (λ (i : ℕ). get_or (slice_set fs n false) i false) s ∙ set_false fs n)
    (λ ne. get_or-set_other fs n k false false ne ∙ f k (omega arith))

module _ {A : Type 0} where
  get_first : (l m : List A) (k : ℕ) (s : A) → slice_get l k ≡ std.Some s → slice_get (l ++ m) k ≡ std.Some s
  get_first [] m k s e = absurd (none-some s e)
  get_first (x ∷ xs) m zero s e = e
  get_first (x ∷ xs) m (suc k) s e = get_first xs m k s e

  get_last : (l : List A) (a : A) → slice_get (l ++ a ∷ []) (length l) ≡ std.Some a
  get_last [] a = refl
  get_last (x ∷ xs) a = get_last xs a

module _ {T E K : Type 0} where
  part_or : T → Slot T E K → T
  part_or d Empty = d
  part_or d (Part y) = y
  part_or d (Book j k) = d

  pub same_part : (x y : T) → (let s : Slot T E K = Part x in s) ≡ Part y → x ≡ y
  unfolding part_or
  same_part x y e = ap (λ (z : Slot T E K). part_or x z) e

  pub taken_next : (items : List (Slot T E K)) (parts parts' : List T) (part : T) (n : ℕ) → parts' ≡ parts ++ part ∷ [] → length parts ≡ n → get_elem? items n ≡ some (Part part)
      → ((k : ℕ) (y : T) → k < n → get_elem? items k ≡ some (Part y) → slice_get parts k ≡ std.Some y)
      → (k : ℕ) (y : T) → k < n + 1 → get_elem? items k ≡ some (Part y) → slice_get parts' k ≡ std.Some y
  taken_next items parts parts' part n e l here before k y h at = ap (λ (z : List T). slice_get z k) e ∙ dite (ℕ_discrete k n)
      (λ s. let same = same_part part y (some-injective _ _ (sym here ∙ ap (λ (i : ℕ). get_elem? items i) (sym s) ∙ at)) in
      let end : k ≡ length parts = omega arith in
      ap (λ (i : ℕ). slice_get (parts ++ part ∷ []) i) end ∙ get_last parts part ∙ ap (λ (z : T). std.Some z) same)
      (λ ne. get_first parts (part ∷ []) k y (before k y (omega arith) at))
