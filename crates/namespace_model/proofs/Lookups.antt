-- Look-ups in trees, and lists of the paths that are there.
use Rattle.std.proofs.Common.{◌≡◌, ◌⊎◌, inl, inr, ℕ, Bool, true, false, cond, ◌||◌, List, [], ◌∷◌, map, Option, Some, None, is_some, refl, ap, sym, subst, ◌∙◌, T}
use Rattle.std.specs.declared.cmp.Ordering.{Ordering}
use Rattle.std.specs.declared.cmp.Ordering.TheVariants.{Less, Equal, Greater}
use Rattle.std.specs.Ordering.{eq_by_cmp, is_eq}
use Rattle.std.specs.List.{list_any}
use Rattle.std.specs.FinMap as fin
use Rattle.std.specs.FinMap.{find, is_sorted}
use Rattle.std.specs.FinMap.Entries.{same_entries, below_all}
use Rattle.std.proofs.lemmas.Bool.{false≢true}
use Rattle.std.proofs.lemmas.Cmp.{tied_itself}
use Rattle.path_text.specs.Paths.{path_cmp, path_cmp_total, path_cmp-IsAntisymmetric}
use Rattle.namespace_model.specs.Nodes.{Node}
use Rattle.namespace_model.specs.Trees.{Path, Tree, at, keys_where}
use Rattle.namespace_model.specs.Locality.{Among}

-- ---- paths that are one

tells : (o : Ordering) → (o ≡ Equal) ⊎ (is_eq o ≡ false)
tells Less = inr refl
tells Equal = inl refl
tells Greater = inr refl

pub same_path : (p : Path) → eq_by_cmp path_cmp p p ≡ true
same_path p = ap is_eq (tied_itself path_cmp_total p)

pub path_from_eq : (p q : Path) → eq_by_cmp path_cmp p q ≡ true → p ≡ q
path_from_eq p q e = elim (tells (path_cmp p q)) [ inl h ↦ path_cmp-IsAntisymmetric p q h | inr h ↦ absurd (false≢true (sym h ∙ e)) ]

pub path_tells : (p q : Path) → (p ≡ q) ⊎ (eq_by_cmp path_cmp p q ≡ false)
path_tells p q = elim (tells (path_cmp p q)) [ inl h ↦ inl (path_cmp-IsAntisymmetric p q h) | inr h ↦ inr h ]

-- ---- look-ups and lists of keys

pub among_any : (q : Path) (ps : List Path) → Among q ps → list_any (eq_by_cmp path_cmp q) ps ≡ true
among_any q [] h = absurd h
among_any q (p ∷ ps) (inl e) = rw (sym e) (rw (same_path q) refl)
among_any q (p ∷ ps) (inr h) = rw (among_any q ps h) (or_true (eq_by_cmp path_cmp q p))
  where
    or_true : (b : Bool) → (b || true) ≡ true
    or_true true = refl
    or_true false = refl

pub any_among : (q : Path) (ps : List Path) → list_any (eq_by_cmp path_cmp q) ps ≡ true → Among q ps
any_among q [] e = absurd (false≢true e)
any_among q (p ∷ ps) e = elim (path_tells q p) [ inl h ↦ inl h | inr h ↦ inr (any_among q ps (subst (λ b. (b || list_any (eq_by_cmp path_cmp q) ps) ≡ true) h e)) ]

keys_of : List (Path × Node) → List Path
keys_of es = map (λ (e : Path × Node). e.0) es

found_key : (t : Tree) (q : Path) → is_some (at t q) ≡ list_any (eq_by_cmp path_cmp q) (fin.keys t)
found_key t q = fin.contains_key-keys t q

get-where : (t : Tree) (test : Path → Bool) (q : Path) → fin.get (fin.retain_keys t test) q ≡ cond (test q) (at t q) None
get-where t test q = fin.get-retain_keys t test q (λ x e. ap test (sym (path_cmp-IsAntisymmetric q x e)))

pub among_keys : (t : Tree) (test : Path → Bool) (q : Path) → is_some (at t q) ≡ true → test q ≡ true → Among q (keys_where t test)
unfolding keys_where
among_keys t test q there passes =
    any_among q _ (sym (found_key (fin.retain_keys t test) q) ∙ ap is_some (get-where t test q ∙ ap (λ b. cond b (at t q) None) passes) ∙ there)

passes_test : (b : Bool) (o : Option Node) → is_some (cond b o None) ≡ true → (b ≡ true) × (is_some o ≡ true)
passes_test true o e = (refl, e)
passes_test false o e = absurd (false≢true e)

-- a path of the list passes the test, and is there
pub keys_among : (t : Tree) (test : Path → Bool) (q : Path) → Among q (keys_where t test) → (test q ≡ true) × (is_some (at t q) ≡ true)
unfolding keys_where
keys_among t test q h =
    passes_test (test q) (at t q) (ap is_some (sym (get-where t test q)) ∙ found_key (fin.retain_keys t test) q ∙ among_any q _ h)

-- ---- two trees with the same paths

blanked : List (Path × Node) → List (Path × ℕ)
blanked [] = []
blanked (e ∷ es) = (e.0, 0) ∷ blanked es

keys-blanked : (es : List (Path × Node)) → map (λ (e : Path × ℕ). e.0) (blanked es) ≡ map (λ (e : Path × Node). e.0) es
unfolding blanked
keys-blanked [] = refl
keys-blanked (e ∷ es) = ap (λ ps. e.0 ∷ ps) (keys-blanked es)

below-blanked : (p : Path) (es : List (Path × Node)) → below_all path_cmp p (blanked es) ≡ below_all path_cmp p es
unfolding blanked
below-blanked p [] = refl
below-blanked p (e ∷ es) = rw (below-blanked p es) refl

sorted-blanked : (es : List (Path × Node)) → is_sorted path_cmp (blanked es) ≡ is_sorted path_cmp es
unfolding blanked
sorted-blanked [] = refl
sorted-blanked (e ∷ es) = rw (below-blanked e.0 es, sorted-blanked es) refl

zero_if : Bool → Option ℕ
zero_if true = Some 0
zero_if false = None

find-blanked : (q : Path) (es : List (Path × Node)) → find path_cmp q (blanked es) ≡ zero_if (is_some (find path_cmp q es))
unfolding blanked zero_if
find-blanked q [] = refl
find-blanked q (e ∷ es) = by_test (eq_by_cmp path_cmp q e.0) (find-blanked q es)
  where
    by_test : (b : Bool) → find path_cmp q (blanked es) ≡ zero_if (is_some (find path_cmp q es))
        → cond b (Some 0) (find path_cmp q (blanked es)) ≡ zero_if (is_some (cond b (Some e.1) (find path_cmp q es)))
    by_test true h = refl
    by_test false h = h

same_keys : (es fs : List (Path × Node)) → T (is_sorted path_cmp es) → T (is_sorted path_cmp fs)
    → ((q : Path) → is_some (find path_cmp q es) ≡ is_some (find path_cmp q fs)) → map (λ (e : Path × Node). e.0) es ≡ map (λ (e : Path × Node). e.0) fs
same_keys es fs sorted_es sorted_fs same =
    let blank : blanked es ≡ blanked fs =
    same_entries path_cmp path_cmp_total path_cmp-IsAntisymmetric (blanked es) (blanked fs)
    (subst T (sym (sorted-blanked es)) sorted_es) (subst T (sym (sorted-blanked fs)) sorted_fs)
    (λ q. find-blanked q es ∙ ap zero_if (same q) ∙ sym (find-blanked q fs)) in
    sym (keys-blanked es) ∙ ap (λ xs. map (λ (e : Path × ℕ). e.0) xs) blank ∙ keys-blanked fs

-- Two trees in which the same paths that pass a test are there have the same list of these.
pub keys_same : (s t : Tree) (test : Path → Bool) → ((q : Path) → test q ≡ true → is_some (at s q) ≡ is_some (at t q)) → keys_where s test ≡ keys_where t test
unfolding keys_where
keys_same s t test same =
    same_keys (fin.entries (fin.retain_keys s test)) (fin.entries (fin.retain_keys t test)) (fin.entries_sorted _) (fin.entries_sorted _)
    (λ q. ap is_some (sym (fin.get-entries (fin.retain_keys s test) q)) ∙ ap is_some (get-where s test q) ∙ by_test q (test q) refl
    ∙ ap is_some (sym (get-where t test q)) ∙ ap is_some (fin.get-entries (fin.retain_keys t test) q))
  where
    by_test : (q : Path) (b : Bool) → test q ≡ b → is_some (cond b (at s q) None) ≡ is_some (cond b (at t q) None)
    by_test q true e = same q e
    by_test q false e = refl
