-- Written paths with the ids that they had, and new paths with the ids that were drawn for them.
use Rattle.std.proofs.Common.{◌≡◌, inl, inr, ℕ, suc, pred, Bool, true, false, cond, not, ◌||◌, List, [], ◌∷◌, ◌++◌, map, filter, zip, length, slice_get, Option, Some, None, refl, ap, sym, subst, ◌∙◌, arith}
use Rattle.std.proofs.lemmas.Bool.{false≢true}
use Rattle.std.specs.Ordering.{eq_by_cmp}
use Rattle.path_text.specs.Paths.{path_cmp}
use Rattle.namespace_model.specs.Trees.{Path}
use Rattle.namespace_model.specs.Outcomes.{once}
use Rattle.namespace_model.specs.Locality.{Among}
use Rattle.namespace_model.proofs.Lookups.{path_from_eq, same_path}
use Rattle.namespace_model.proofs.Effected.{is_in}
use Rattle.inode_tree.specs.Parts.{Parts, id_at}
use Rattle.inode_tree.specs.After.{Relink, id_in, with_id, known}
use Rattle.inode_tree.proofs.LinkLemmas.{last_link, path_differs}
use Rattle.inode_tree.proofs.TurnLemmas.{Within, HasIdsOnce, lacks_all}

-- ---- paths without repeats

-- no path stands twice
abbrev pub IsOnce : List Path → Type 0
IsOnce [] = Unit {0}
IsOnce (p ∷ ps) = (Among p ps → ⊥) × IsOnce ps

filtered_among : (test : Path → Bool) (q : Path) (ps : List Path) → Among q (filter test ps) → Among q ps × (test q ≡ true)
filtered_among test q [] h = absurd h
filtered_among test q (p ∷ ps) h = by_test (test p) refl (filtered_among test q ps) h
  where
    by_test : (b : Bool) → test p ≡ b → (Among q (filter test ps) → Among q ps × (test q ≡ true)) → Among q (cond b (p ∷ filter test ps) (filter test ps)) → Among q (p ∷ ps) × (test q ≡ true)
    by_test true e more (inl same) = (inl same, ap test same ∙ e)
    by_test true e more (inr k) = let rest = more k in (inr rest.0, rest.1)
    by_test false e more k = let rest = more k in (inr rest.0, rest.1)

filtered_once : (test : Path → Bool) (ps : List Path) → IsOnce ps → IsOnce (filter test ps)
filtered_once test [] h = tt
filtered_once test (p ∷ ps) h = by_test (test p) (filtered_once test ps h.1)
  where
    by_test : (b : Bool) → IsOnce (filter test ps) → IsOnce (cond b (p ∷ filter test ps) (filter test ps))
    by_test true k = (λ m. h.0 (filtered_among test p ps m).0, k)
    by_test false k = k

pub once_is_once : (ps : List Path) → IsOnce (once ps)
once_is_once [] = tt
once_is_once (p ∷ ps) = (
  λ h. false≢true (sym (ap not (same_path p)) ∙ (filtered_among (λ q. not (eq_by_cmp path_cmp q p)) p (once ps) h).1),
  filtered_once (λ q. not (eq_by_cmp path_cmp q p)) (once ps) (once_is_once ps),
)

-- ---- known paths

pub within_left : (x : Path × ℕ) (xs ys : List (Path × ℕ)) → Within x xs → Within x (xs ++ ys)
within_left x [] ys h = absurd h
within_left x (a ∷ xs) ys (inl e) = inl e
within_left x (a ∷ xs) ys (inr h) = inr (within_left x xs ys h)

pub within_right : (x : Path × ℕ) (xs ys : List (Path × ℕ)) → Within x ys → Within x (xs ++ ys)
within_right x [] ys h = h
within_right x (a ∷ xs) ys h = inr (within_right x xs ys h)

pub known_has : (parts : Parts) (ps : List Path) (p : Path) (id : ℕ) → Among p ps → id_at parts p ≡ Some id → Within (p, id) (known parts ps)
known_has parts [] p id h e = absurd h
known_has parts (q ∷ qs) p id (inl same) e =
    within_left (p, id) (with_id q (id_at parts q)) (known parts qs)
    (subst (λ o. Within (p, id) (with_id q o)) (sym (ap (id_at parts) (sym same) ∙ e)) (inl (ap (λ r. (r, id)) same)))
known_has parts (q ∷ qs) p id (inr h) e = within_right (p, id) (with_id q (id_at parts q)) (known parts qs) (known_has parts qs p id h e)

pub known_is : (parts : Parts) (ps : List Path) (x : Path × ℕ) → Within x (known parts ps) → Among x.0 ps × (id_at parts x.0 ≡ Some x.1)
known_is parts [] x h = absurd h
known_is parts (q ∷ qs) x h = by_id (id_at parts q) refl (known_is parts qs x) h
  where
    by_id : (o : Option ℕ) → id_at parts q ≡ o → (Within x (known parts qs) → Among x.0 qs × (id_at parts x.0 ≡ Some x.1)) → Within x (with_id q o ++ known parts qs) → Among x.0 (q ∷ qs) × (id_at parts x.0 ≡ Some x.1)
    by_id None e more k = let rest = more k in (inr rest.0, rest.1)
    by_id (Some id) e more (inl same) = (
      inl (ap (λ (z : Path × ℕ). z.0) same),
      ap (λ (z : Path × ℕ). id_at parts z.0) same ∙ e ∙ sym (ap (λ (z : Path × ℕ). Some z.1) same),
    )
    by_id (Some id) e more (inr k) = let rest = more k in (inr rest.0, rest.1)

-- where no id is that of two paths
pub known_once : (parts : Parts) → ((p q : Path) (id : ℕ) → id_at parts p ≡ Some id → id_at parts q ≡ Some id → p ≡ q) → (ps : List Path) → IsOnce ps → HasIdsOnce (known parts ps)
known_once parts one [] h = tt
known_once parts one (q ∷ qs) h = by_id (id_at parts q) refl (known_once parts one qs h.1)
  where
    by_id : (o : Option ℕ) → id_at parts q ≡ o → HasIdsOnce (known parts qs) → HasIdsOnce (with_id q o ++ known parts qs)
    by_id None e more = more
    by_id (Some id) e more = (
      lacks_all id (known parts qs) (λ y k same.
          let is = known_is parts qs y k in
          h.0 (subst (λ p. Among p qs) (one y.0 q id (is.1 ∙ ap Some same) e) is.0)),
      more,
    )

-- a path of the list is found with its id
pub find_known : (parts : Parts) (ps : List Path) (p : Path) → id_in p (known parts ps) ≡ cond (is_in p ps) (id_at parts p) None
find_known parts [] p = refl
find_known parts (q ∷ qs) p = by_id (id_at parts q) refl (find_known parts qs p)
  where
    other : (b : Bool) → eq_by_cmp path_cmp p q ≡ b → id_at parts q ≡ None → cond (is_in p qs) (id_at parts p) None ≡ cond (b || is_in p qs) (id_at parts p) None
    other false e none = refl
    other true e none = ap (cond (is_in p qs) (id_at parts p)) (sym (ap (id_at parts) (path_from_eq p q e) ∙ none)) ∙ both_same (is_in p qs) (id_at parts p)
      where
        both_same : (b : Bool) (o : Option ℕ) → cond b o o ≡ o
        both_same true o = refl
        both_same false o = refl

    here : (id : ℕ) (b : Bool) → eq_by_cmp path_cmp p q ≡ b → id_at parts q ≡ Some id → id_in p (known parts qs) ≡ cond (is_in p qs) (id_at parts p) None
        → cond b (Some id) (id_in p (known parts qs)) ≡ cond (b || is_in p qs) (id_at parts p) None
    here id true e there more = sym (ap (id_at parts) (path_from_eq p q e) ∙ there)
    here id false e there more = more

    by_id : (o : Option ℕ) → id_at parts q ≡ o → id_in p (known parts qs) ≡ cond (is_in p qs) (id_at parts p) None
        → id_in p (with_id q o ++ known parts qs) ≡ cond (eq_by_cmp path_cmp p q || is_in p qs) (id_at parts p) None
    by_id None e more = more ∙ other (eq_by_cmp path_cmp p q) refl e
    by_id (Some id) e more = here id (eq_by_cmp path_cmp p q) refl e more

-- ---- new paths

pub zip_is : (ps : List Path) (ids : List ℕ) (x : Path × ℕ) → Within x (zip ps ids) → Among x.0 ps × ((k : ℕ) × (slice_get ids k ≡ Some x.1))
zip_is [] ids x h = absurd h
zip_is (p ∷ ps) [] x h = absurd h
zip_is (p ∷ ps) (id ∷ ids) x (inl e) = (inl (ap (λ (z : Path × ℕ). z.0) e), (0, ap (λ (z : Path × ℕ). Some z.1) (sym e)))
zip_is (p ∷ ps) (id ∷ ids) x (inr h) = let rest = zip_is ps ids x h in (inr rest.0, (suc rest.1.0, rest.1.1))

pub zip_has : (ps : List Path) (ids : List ℕ) (p : Path) → length ids ≡ length ps → Among p ps → (id : ℕ) × Within (p, id) (zip ps ids)
zip_has [] ids p e h = absurd h
zip_has (q ∷ ps) [] p e h = absurd (omega arith)
zip_has (q ∷ ps) (id ∷ ids) p e (inl same) = (id, inl (ap (λ r. (r, id)) same))
zip_has (q ∷ ps) (id ∷ ids) p e (inr h) = let rest = zip_has ps ids p (ap pred e) h in (rest.0, inr rest.1)

pub zip_ids_once : (ps : List Path) (ids : List ℕ) → ((j k id : ℕ) → slice_get ids j ≡ Some id → slice_get ids k ≡ Some id → j ≡ k) → HasIdsOnce (zip ps ids)
zip_ids_once [] ids one = tt
zip_ids_once (p ∷ ps) [] one = tt
zip_ids_once (p ∷ ps) (id ∷ ids) one = (
  lacks_all id (zip ps ids) (λ x h same. let place = (zip_is ps ids x h).1 in apart place.0 (one 0 (suc place.0) id refl (place.1 ∙ ap Some same))),
  zip_ids_once ps ids (λ j k i a b. ap pred (one (suc j) (suc k) i a b)),
)
  where
    apart : (k : ℕ) → 0 ≡ suc k → ⊥
    apart k e = omega arith

pub zip_paths_once : (ps : List Path) (ids : List ℕ) → IsOnce ps → (p : Path) (i j : ℕ) → Within (p, i) (zip ps ids) → Within (p, j) (zip ps ids) → i ≡ j
zip_paths_once [] ids h p i j a b = absurd a
zip_paths_once (q ∷ ps) [] h p i j a b = absurd a
zip_paths_once (q ∷ ps) (id ∷ ids) h p i j (inl e) (inl f) = ap (λ (z : Path × ℕ). z.1) (e ∙ sym f)
zip_paths_once (q ∷ ps) (id ∷ ids) h p i j (inl e) (inr b) = absurd (h.0 (subst (λ r. Among r ps) (ap (λ (z : Path × ℕ). z.0) e) (zip_is ps ids (p, j) b).0))
zip_paths_once (q ∷ ps) (id ∷ ids) h p i j (inr a) (inl f) = absurd (h.0 (subst (λ r. Among r ps) (ap (λ (z : Path × ℕ). z.0) f) (zip_is ps ids (p, i) a).0))
zip_paths_once (q ∷ ps) (id ∷ ids) h p i j (inr a) (inr b) = zip_paths_once ps ids h.1 p i j a b

abbrev pub drawn_links : List (Path × ℕ) → List Relink
drawn_links xs = map (λ (x : Path × ℕ). (x.0, Some x.1)) xs

-- of a path that is not new nothing is said
pub drawn_unsaid : (ps : List Path) (ids : List ℕ) (q : Path) (before : Option ℕ) → (Among q ps → ⊥) → last_link (drawn_links (zip ps ids)) q before ≡ before
drawn_unsaid [] ids q before h = refl
drawn_unsaid (p ∷ ps) [] q before h = refl
drawn_unsaid (p ∷ ps) (id ∷ ids) q before h =
    ap (λ b. last_link (drawn_links (zip ps ids)) q (cond b (Some id) before)) (path_differs q p (λ e. h (inl e)))
    ∙ drawn_unsaid ps ids q before (λ k. h (inr k))

-- a new path leads to the id that was drawn for it
pub drawn_said : (ps : List Path) (ids : List ℕ) (q : Path) (id : ℕ) (before : Option ℕ) → IsOnce ps → Within (q, id) (zip ps ids) → last_link (drawn_links (zip ps ids)) q before ≡ Some id
drawn_said [] ids q id before h k = absurd k
drawn_said (p ∷ ps) [] q id before h k = absurd k
drawn_said (p ∷ ps) (i ∷ ids) q id before h (inl e) =
    ap (λ b. last_link (drawn_links (zip ps ids)) q (cond b (Some i) before)) (ap (λ r. eq_by_cmp path_cmp r p) (ap (λ (z : Path × ℕ). z.0) e) ∙ same_path p)
    ∙ drawn_unsaid ps ids q (Some i) (λ k. h.0 (subst (λ r. Among r ps) (ap (λ (z : Path × ℕ). z.0) e) k))
    ∙ ap (λ (z : Path × ℕ). Some z.1) (sym e)
drawn_said (p ∷ ps) (i ∷ ids) q id before h (inr k) = drawn_said ps ids q id (cond (eq_by_cmp path_cmp q p) (Some i) before) h.1 k
