-- Where the names of a directory lead once links were said: for each name, what is said last of its path.
use Rattle.std.proofs.Common.{◌≡◌, ◌≢◌, ◌⊎◌, inl, inr, ℕ, Bool, true, false, cond, ◌||◌, List, [], ◌∷◌, ◌++◌, map, length, drop, Option, Some, None, refl, ap, sym, ◌∙◌}
use Rattle.std.proofs.lemmas.Bool.{false≢true, cases_Bool}
use Rattle.std.specs.declared.cmp.Ordering.{Ordering}
use Rattle.std.specs.declared.cmp.Ordering.TheVariants.{Less, Equal, Greater}
use Rattle.std.specs.Ordering.{is_eq, eq_by_cmp}
use Rattle.std.specs.Cmp.{IsTotalOrder, tied_itself}
use Rattle.std.specs.Cmp.Lexicographic.{nat_list_cmp_total}
use Rattle.std.specs.FinMap as fin
use Rattle.std.specs.FinMap.{IsAntisymmetric}
use Rattle.path_text.specs.Paths.{path_cmp, is_prefix}
use Rattle.namespace_model.specs.Trees.{Path}
use Rattle.namespace_model.proofs.Lookups.{path_tells, same_path}
use Rattle.namespace_model.proofs.Prefixes.{behind_front, front_of_append}
use Rattle.namespace_model.proofs.Effected.{is_in, drop_front}
use Rattle.inode_tree.specs.ChildLists.{name_cmp}
use Rattle.inode_tree.specs.Inodes.{Links}
use Rattle.inode_tree.specs.After.{Relink, set_link, relink_behind, relinked}
use Rattle.inode_tree.proofs.MapLemmas.{name_cmp-IsAntisymmetric}

module _ {K : Type 0} (R : K → K → Ordering) (o : IsTotalOrder R) (same : IsAntisymmetric R) where
  pub key_same : (k : K) → eq_by_cmp R k k ≡ true
  key_same k = ap is_eq (tied_itself o k)

  equal_order : (r : Ordering) → is_eq r ≡ true → r ≡ Equal
  equal_order Less h = (cc)
  equal_order Equal h = refl
  equal_order Greater h = (cc)

  pub key_tells : (k q : K) → (k ≡ q) ⊎ (eq_by_cmp R k q ≡ false)
  key_tells k q = elim (cases_Bool (eq_by_cmp R k q)) [ inl h ↦ inl (same k q (equal_order (R k q) h)) | inr h ↦ inr h ]

  pub key_differs : (k q : K) → k ≢ q → eq_by_cmp R k q ≡ false
  key_differs k q h = elim (key_tells k q) [ inl e ↦ absurd (h e) | inr e ↦ e ]

-- ---- what is said last

-- what is said last of a path, and else what was so before
abbrev pub last_link : List Relink → Path → Option ℕ → Option ℕ
last_link [] q before = before
last_link (l ∷ ls) q before = last_link ls q (cond (eq_by_cmp path_cmp q l.0) l.1 before)

pub last-append : (xs ys : List Relink) (q : Path) (before : Option ℕ) → last_link (xs ++ ys) q before ≡ last_link ys q (last_link xs q before)
last-append [] ys q before = refl
last-append (x ∷ xs) ys q before = last-append xs ys q (cond (eq_by_cmp path_cmp q x.0) x.1 before)

-- nothing is said of a path
abbrev pub IsUnsaid : Path → List Relink → Type 0
IsUnsaid q [] = Unit {0}
IsUnsaid q (l ∷ ls) = (q ≢ l.0) × IsUnsaid q ls

pub path_differs : (p q : Path) → p ≢ q → eq_by_cmp path_cmp p q ≡ false
path_differs p q h = elim (path_tells p q) [ inl e ↦ absurd (h e) | inr e ↦ e ]

pub last-unsaid : (ls : List Relink) (q : Path) (before : Option ℕ) → IsUnsaid q ls → last_link ls q before ≡ before
last-unsaid [] q before h = refl
last-unsaid (l ∷ ls) q before h =
    ap (λ b. last_link ls q (cond b l.1 before)) (path_differs q l.0 h.0) ∙ last-unsaid ls q before h.1

-- ---- one link

abbrev same_name : (n : List ℕ) → eq_by_cmp name_cmp n n ≡ true
same_name n = key_same name_cmp nat_list_cmp_total name_cmp-IsAntisymmetric n

get-set_same : (links : Links) (n : List ℕ) (id : Option ℕ) → fin.get (set_link links n id) n ≡ id
get-set_same links n None = fin.get-remove nat_list_cmp_total links n n ∙ ap (λ b. cond b None (fin.get links n)) (same_name n)
get-set_same links n (Some id) = fin.get-insert nat_list_cmp_total links n id n ∙ ap (λ b. cond b (Some id) (fin.get links n)) (same_name n)

get-set_other : (links : Links) (m n : List ℕ) (id : Option ℕ) → eq_by_cmp name_cmp n m ≡ false → fin.get (set_link links m id) n ≡ fin.get links n
get-set_other links m n None h = fin.get-remove nat_list_cmp_total links m n ∙ ap (λ b. cond b None (fin.get links n)) h
get-set_other links m n (Some id) h = fin.get-insert nat_list_cmp_total links m id n ∙ ap (λ b. cond b (Some id) (fin.get links n)) h

-- what is said of another path than that of a name leaves the name
get-behind_other : (links : Links) (p r : Path) (n : List ℕ) (id : Option ℕ) → p ++ n ∷ [] ≢ p ++ r → fin.get (relink_behind links r id) n ≡ fin.get links n
get-behind_other links p [] n id h = refl
get-behind_other links p (m ∷ []) n id h =
    get-set_other links m n id (key_differs name_cmp nat_list_cmp_total name_cmp-IsAntisymmetric n m (λ e. h (ap (λ k. p ++ k ∷ []) e)))
get-behind_other links p (m ∷ k ∷ r) n id h = refl

one_relinked : (p : Path) (n : List ℕ) (l : Relink) (links : Links)
    → fin.get (cond (is_prefix p l.0) (relink_behind links (drop (length p) l.0) l.1) links) n ≡ cond (eq_by_cmp path_cmp (p ++ n ∷ []) l.0) l.1 (fin.get links n)
one_relinked p n l links = elim (path_tells (p ++ n ∷ []) l.0) [
  | inl e ↦
      ap (λ q. fin.get (cond (is_prefix p q) (relink_behind links (drop (length p) q) l.1) links) n) (sym e)
      ∙ ap (λ b. fin.get (cond b (relink_behind links (drop (length p) (p ++ n ∷ [])) l.1) links) n) (front_of_append p (n ∷ []))
      ∙ ap (λ r. fin.get (relink_behind links r l.1) n) (drop_front p (n ∷ []))
      ∙ get-set_same links n l.1
      ∙ sym (ap (λ b. cond b l.1 (fin.get links n)) (ap (λ q. eq_by_cmp path_cmp (p ++ n ∷ []) q) (sym e) ∙ same_path (p ++ n ∷ [])))
  | inr other ↦ by_front (is_prefix p l.0) refl other ∙ sym (ap (λ b. cond b l.1 (fin.get links n)) other)
]
  where
    not_it : (r : Path) → l.0 ≡ p ++ r → eq_by_cmp path_cmp (p ++ n ∷ []) l.0 ≡ false → p ++ n ∷ [] ≢ p ++ r
    not_it r e other k = false≢true (sym other ∙ ap (λ q. eq_by_cmp path_cmp (p ++ n ∷ []) q) (e ∙ sym k) ∙ same_path (p ++ n ∷ []))

    by_front : (b : Bool) → is_prefix p l.0 ≡ b → eq_by_cmp path_cmp (p ++ n ∷ []) l.0 ≡ false
        → fin.get (cond b (relink_behind links (drop (length p) l.0) l.1) links) n ≡ fin.get links n
    by_front false e other = refl
    by_front true e other =
        let rest = behind_front p l.0 e in
        ap (λ r. fin.get (relink_behind links r l.1) n) (ap (drop (length p)) rest.1 ∙ drop_front p rest.0)
        ∙ get-behind_other links p rest.0 n l.1 (not_it rest.0 rest.1 other)

-- a name leads to what is said last of its path, and else where it led before
pub get-relinked : (p : Path) (n : List ℕ) (ls : List Relink) (links : Links) → fin.get (relinked p ls links) n ≡ last_link ls (p ++ n ∷ []) (fin.get links n)
get-relinked p n [] links = refl
get-relinked p n (l ∷ ls) links =
    get-relinked p n ls (cond (is_prefix p l.0) (relink_behind links (drop (length p) l.0) l.1) links)
    ∙ ap (last_link ls (p ++ n ∷ [])) (one_relinked p n l links)

-- ---- the links of paths that are taken away

pub last-taken : (ps : List Path) (q : Path) (before : Option ℕ) → last_link (map (λ (p : Path). (p, None)) ps) q before ≡ cond (is_in q ps) None before
last-taken [] q before = refl
last-taken (p ∷ ps) q before = last-taken ps q (cond (eq_by_cmp path_cmp q p) None before) ∙ two_tests (eq_by_cmp path_cmp q p) (is_in q ps)
  where
    two_tests : (a b : Bool) → cond b None (cond a None before) ≡ cond (a || b) None before
    two_tests true true = refl
    two_tests true false = refl
    two_tests false true = refl
    two_tests false false = refl
