-- Lists that are read by `get_elem?`.
use Rattle.std.specs.Prelude.{◌≡◌, ◌≢◌, ℕ, zero, suc, ◌<◌, List, [], ◌∷◌, length, slice_set, slice_index_or, refl}
use Rattle.std.proofs.Common.{ap, arith}
use mathlib.Core.Option as maybe
use mathlib.Core.Option.{Option, none, some, some-injective, some-ne-none}
use lib.ListN.{get_elem?}

module _ {A : Type 0} where
  pub elem-set_same : (l : List A) (i : ℕ) (a : A) → i < length l → get_elem? (slice_set l i a) i ≡ some a
  elem-set_same [] i a h = absurd (omega arith)
  elem-set_same (x ∷ xs) zero a h = refl
  elem-set_same (x ∷ xs) (suc i) a h = elem-set_same xs i a (omega arith)

  pub elem-set_other : (l : List A) (i j : ℕ) (a : A) → j ≢ i → get_elem? (slice_set l i a) j ≡ get_elem? l j
  elem-set_other [] i j a n = refl
  elem-set_other (x ∷ xs) zero zero a n = absurd (n refl)
  elem-set_other (x ∷ xs) zero (suc j) a n = refl
  elem-set_other (x ∷ xs) (suc i) zero a n = refl
  elem-set_other (x ∷ xs) (suc i) (suc j) a n = elem-set_other xs i j a (λ e. n (ap suc e))

  pub index_or-elem : (l : List A) (i : ℕ) (d : A) → slice_index_or l i d ≡ maybe.get_or (get_elem? l i) d
  index_or-elem [] i d = refl
  index_or-elem (x ∷ xs) zero d = refl
  index_or-elem (x ∷ xs) (suc i) d = index_or-elem xs i d
