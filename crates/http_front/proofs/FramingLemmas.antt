-- The values of one name, and one more.
use Rattle.std.proofs.Common.{◌≡◌, ℕ, ◌≤◌, List, [], ◌∷◌, ◌++◌, length, ap, arith, length-append}

pub none_one : (value : List ℕ) (values : List (List ℕ)) → values ≡ [] → values ++ value ∷ [] ≡ value ∷ []
none_one value values none = ap (λ (vs : List (List ℕ)). vs ++ value ∷ []) none

pub one_several : (first value : List ℕ) (values : List (List ℕ)) → values ≡ first ∷ [] → 2 ≤ length (values ++ value ∷ [])
one_several first value values one = omega (arith, ap length one, length-append values (value ∷ []))

pub still_several : (value : List ℕ) (values : List (List ℕ)) → 2 ≤ length values → 2 ≤ length (values ++ value ∷ [])
still_several value values some = omega (arith, length-append values (value ∷ []))
