-- Paths and what is below them.
use Rattle.std.proofs.Common.{◌≡◌, ◌⊎◌, inl, inr, ℕ, suc, ◌+◌, Bool, true, false, ◌&&◌, nat_lt, bytes_eq, List, [], ◌∷◌, ◌++◌, length, refl, ap, sym, subst, ◌∙◌, length-append, arith}
use Rattle.std.proofs.lemmas.Bool.{false≢true}
use Rattle.std.proofs.lemmas.Bool.Decides.{nat_tests}
use Rattle.std.proofs.lemmas.List.{append-nil}
use Rattle.std.proofs.lemmas.Slice.Eq.{bytes_eq-Decides}
use Rattle.std.specs.Cmp.{unsigned_Decides}
use Rattle.path_text.specs.Paths.{is_prefix}
use Rattle.namespace_model.specs.Trees.{Path, parent, is_child, is_below}

pub both : (a b : Bool) → (a && b) ≡ true → (a ≡ true) × (b ≡ true)
both true true e = (refl, refl)
both true false e = absurd (false≢true e)
both false b e = absurd (false≢true e)

pub together : {a b : Bool} → a ≡ true → b ≡ true → (a && b) ≡ true
together {a} {b} e f = rw (e, f) refl

pub same_bytes : (n : List ℕ) → bytes_eq n n ≡ true
same_bytes n = (bytes_eq-Decides n n).1 refl

-- ---- fronts

pub front_of_append : (d r : Path) → is_prefix d (d ++ r) ≡ true
front_of_append [] r = refl
front_of_append (n ∷ d) r = together (same_bytes n) (front_of_append d r)

pub front_of_itself : (d : Path) → is_prefix d d ≡ true
front_of_itself d = subst (λ q. is_prefix d q ≡ true) (append-nil d) (front_of_append d [])

-- what a path has behind a front of it
pub behind_front : (d q : Path) → is_prefix d q ≡ true → (r : Path) × (q ≡ d ++ r)
behind_front [] q e = (q, refl)
behind_front (n ∷ d) [] e = absurd (false≢true e)
behind_front (n ∷ d) (m ∷ q) e =
    let parts = both _ _ e in
    let rest = behind_front d q parts.1 in
    let name = (bytes_eq-Decides n m).0 parts.0 in
    (rest.0, ap (λ k. k ∷ q) (sym name) ∙ ap (λ p. n ∷ p) rest.1)

pub length_append : (d r : Path) → length (d ++ r) ≡ length d + length r
length_append d r = length-append d r

-- ---- children

one_name : (r : Path) (k : ℕ) → k + length r ≡ k + 1 → (n : List ℕ) × (r ≡ n ∷ [])
one_name [] k e = absurd (omega arith)
one_name (n ∷ []) k e = (n, refl)
one_name (n ∷ m ∷ r) k e = absurd (let l : length (n ∷ m ∷ r) ≡ suc (suc (length r)) = refl in omega arith)

-- a child is one name below
pub child_name : (d q : Path) → is_child d q ≡ true → (n : List ℕ) × (q ≡ d ++ n ∷ [])
child_name d q e =
    let parts = both _ _ e in
    let rest = behind_front d q parts.0 in
    let long : length q ≡ length d + 1 = (unsigned_Decides (length q) (length d + 1)).0 parts.1 in
    let name = one_name rest.0 (length d) (sym (length_append d rest.0) ∙ ap (λ (p : Path). length p) (sym rest.1) ∙ long) in
    (name.0, rest.1 ∙ ap (λ r. d ++ r) name.1)

pub name_child : (d : Path) (n : List ℕ) → is_child d (d ++ n ∷ []) ≡ true
name_child d n = together (front_of_append d (n ∷ [])) ((unsigned_Decides _ _).1 (length_append d (n ∷ [])))

-- what is below is below by some names
pub below_names : (d q : Path) → is_below d q ≡ true → (n : List ℕ) × (r : Path) × (q ≡ d ++ n ∷ r)
below_names d q e = named (behind_front d q (both _ _ e).0) (both _ _ e).1
  where
    longer : (d r : Path) → nat_lt (length d) (length (d ++ r)) ≡ true → (n : List ℕ) × (s : Path) × (r ≡ n ∷ s)
    longer d [] h = absurd (let l : length (d ++ []) ≡ length d + 0 = length_append d [] in false≢true (sym (not_longer (length d) (length (d ++ [])) (omega arith)) ∙ h))
      where
        not_longer : (a b : ℕ) → b ≡ a → nat_lt a b ≡ false
        not_longer a b e = grind (arith, nat_tests)
    longer d (n ∷ s) h = (n, s, refl)

    named : ((r : Path) × (q ≡ d ++ r)) → nat_lt (length d) (length q) ≡ true → (n : List ℕ) × (r : Path) × (q ≡ d ++ n ∷ r)
    named rest h =
        let more = longer d rest.0 (ap (λ (p : Path). nat_lt (length d) (length p)) (sym rest.1) ∙ h) in
        (more.0, more.1, rest.1 ∙ ap (λ r. d ++ r) more.2)

-- ---- the parent

-- each path but the account is one name below its parent
pub parent_name : (p : Path) → (p ≡ []) ⊎ ((n : List ℕ) × (p ≡ parent p ++ n ∷ []))
parent_name [] = inl refl
parent_name (n ∷ []) = inr (n, refl)
parent_name (n ∷ m ∷ p) = inr (under (parent_name (m ∷ p)))
  where
    under : (m ∷ p ≡ []) ⊎ ((o : List ℕ) × (m ∷ p ≡ parent (m ∷ p) ++ o ∷ [])) → (o : List ℕ) × (n ∷ m ∷ p ≡ parent (n ∷ m ∷ p) ++ o ∷ [])
    under (inl e) = absurd (false≢true (ap (λ (q : Path). is_prefix (m ∷ p) q) (sym e) ∙ front_of_itself (m ∷ p)))
    under (inr h) = (h.0, ap (λ q. n ∷ q) h.1)

pub parent_of_child : (d : Path) (n : List ℕ) → parent (d ++ n ∷ []) ≡ d
parent_of_child [] n = refl
parent_of_child (m ∷ []) n = refl
parent_of_child (m ∷ o ∷ d) n = ap (λ q. m ∷ q) (parent_of_child (o ∷ d) n)
