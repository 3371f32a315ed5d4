-- The parent and the last name of a path.
use Rattle.std.proofs.Common.{◌≡◌, ℕ, suc, ◌-◌, List, [], ◌∷◌, ◌++◌, length, take, slice_get, Some, refl, sym, ap, ◌∙◌, arith}
use Rattle.path_text.specs.Paths.{parent}

pub taken_is_parent : (path : List (List ℕ)) → take (length path - 1) path ≡ parent path
taken_is_parent [] = refl
taken_is_parent (name ∷ []) = refl
taken_is_parent (name ∷ next ∷ names) =
    let place : length (name ∷ next ∷ names) - 1 ≡ suc (length (next ∷ names) - 1) = omega arith in
    ap (λ n. take n (name ∷ next ∷ names)) place ∙ ap (λ l. name ∷ l) (taken_is_parent (next ∷ names))

ends_in : (path : List (List ℕ)) (name : List ℕ) → slice_get path (length path - 1) ≡ Some name → path ≡ parent path ++ name ∷ []
ends_in [] name e = cc
ends_in (first ∷ []) name e = let same : first ≡ name = cc in ap (λ x. x ∷ []) same
ends_in (first ∷ next ∷ names) name e =
    let place : suc (length (next ∷ names) - 1) ≡ length (first ∷ next ∷ names) - 1 = omega arith in
    ap (λ l. first ∷ l) (ends_in (next ∷ names) name (ap (slice_get (first ∷ next ∷ names)) place ∙ e))

pub last_is : (path : List (List ℕ)) (name : List ℕ) (depth : ℕ) → depth ≡ length path → slice_get path (depth - 1) ≡ Some name → path ≡ parent path ++ name ∷ []
last_is path name depth long e = ends_in path name (ap (λ n. slice_get path (n - 1)) (sym long) ∙ e)
