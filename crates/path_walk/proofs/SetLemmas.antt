-- The ids of paths as a set: which of them are there, however often and in which order the paths stand.
use Rattle.std.proofs.Common.{◌≡◌, inl, inr, ℕ, ◌%◌, ◌==◌, Bool, true, false, cond, not, ◌||◌, List, [], ◌∷◌, map, filter, refl, ap, sym, ◌∙◌}
use Rattle.std.proofs.lemmas.Bool.{false≢true}
use Rattle.std.specs.Cmp.{unsigned_Decides}
use Rattle.std.specs.Ordering.{eq_by_cmp}
use Rattle.path_text.specs.Paths.{path_cmp}
use Rattle.namespace_model.specs.Trees.{Path}
use Rattle.namespace_model.specs.Outcomes.{once}
use Rattle.namespace_model.specs.Locality.{Among}
use Rattle.namespace_model.proofs.StepLocality.{among_once}
use Rattle.inode_tree.specs.Footprints.{ids_of, lies_in}
use Rattle.inode_tree.specs.Parts.{Parts}
use Rattle.inode_tree.specs.After.{known}
use Rattle.inode_tree.specs.Promises.{is_one_of}
use Rattle.inode_tree.proofs.TurnLemmas.{Within}
use Rattle.inode_tree.proofs.PairLemmas.{known_has, known_is}
use Rattle.inode_tree.proofs.PromiseLemmas.{lies_one}
use Rattle.path_walk.proofs.Truths.{either_true, same_tests}

-- an id is one of these where one of the paths has it
pub one_has : (xs : List (Path × ℕ)) (x : Path × ℕ) → Within x xs → is_one_of x.1 (map (λ (y : Path × ℕ). y.1) xs) ≡ true
one_has [] x h = absurd h
one_has (y ∷ ys) x (inl e) = ap (λ (z : Path × ℕ). (z.1 == x.1) || is_one_of x.1 (map (λ (w : Path × ℕ). w.1) ys)) (sym e) ∙ ap (λ b. b || is_one_of x.1 (map (λ (w : Path × ℕ). w.1) ys)) ((unsigned_Decides x.1 x.1).1 refl)
one_has (y ∷ ys) x (inr h) = ap (λ b. (y.1 == x.1) || b) (one_has ys x h) ∙ either_true (y.1 == x.1)

pub has_one : (xs : List (Path × ℕ)) (id : ℕ) → is_one_of id (map (λ (y : Path × ℕ). y.1) xs) ≡ true → (p : Path) × Within (p, id) xs
has_one [] id e = absurd (false≢true e)
has_one (y ∷ ys) id e = by_first (y.1 == id) refl e (has_one ys id)
  where
    by_first : (b : Bool) → (y.1 == id) ≡ b → (b || is_one_of id (map (λ (w : Path × ℕ). w.1) ys)) ≡ true
        → (is_one_of id (map (λ (w : Path × ℕ). w.1) ys) ≡ true → (p : Path) × Within (p, id) ys) → (p : Path) × Within (p, id) (y ∷ ys)
    by_first true same h more = (y.0, inl (ap (λ k. (y.0, k)) (sym ((unsigned_Decides y.1 id).0 same))))
    by_first false other h more = let rest = more h in (rest.0, inr rest.1)

-- paths that are the same as sets have the same ids
pub same_ids : (parts : Parts) (ps qs : List Path) → ((p : Path) → Among p ps → Among p qs) → ((p : Path) → Among p qs → Among p ps) → (id : ℕ) → is_one_of id (ids_of parts ps) ≡ is_one_of id (ids_of parts qs)
same_ids parts ps qs to from id = same_tests _ _ (carried ps qs to) (carried qs ps from)
  where
    carried : (xs ys : List Path) → ((p : Path) → Among p xs → Among p ys) → is_one_of id (ids_of parts xs) ≡ true → is_one_of id (ids_of parts ys) ≡ true
    carried xs ys h e =
        let found = has_one (known parts xs) id e in
        let is = known_is parts xs (found.0, id) found.1 in
        one_has (known parts ys) (found.0, id) (known_has parts ys found.0 id (h found.0 is.0) is.1)

filtered : (test : Path → Bool) (q : Path) (ps : List Path) → Among q (filter test ps) → Among q ps
filtered test q [] h = absurd h
filtered test q (p ∷ ps) h = by_test (test p) h (filtered test q ps)
  where
    by_test : (b : Bool) → Among q (cond b (p ∷ filter test ps) (filter test ps)) → (Among q (filter test ps) → Among q ps) → Among q (p ∷ ps)
    by_test true (inl e) more = inl e
    by_test true (inr k) more = inr (more k)
    by_test false k more = inr (more k)

pub once_among : (q : Path) (ps : List Path) → Among q (once ps) → Among q ps
once_among q [] h = absurd h
once_among q (p ∷ ps) (inl e) = inl e
once_among q (p ∷ ps) (inr h) = inr (once_among q ps (filtered (λ r. not (eq_by_cmp path_cmp r p)) q (once ps) h))

-- taking repeats out leaves the same ids
pub ids_once : (parts : Parts) (ps : List Path) (id : ℕ) → is_one_of id (ids_of parts (once ps)) ≡ is_one_of id (ids_of parts ps)
ids_once parts ps id = same_ids parts (once ps) ps (λ p h. once_among p ps h) (λ p h. among_once p ps h) id

pub one_lies : (stripe id : ℕ) (ids : List ℕ) → is_one_of id ids ≡ true → id % 64 ≡ stripe → lies_in stripe ids ≡ true
one_lies stripe id [] e own = absurd (false≢true e)
one_lies stripe id (i ∷ is) e own = by_first (i == id) refl e (λ h. one_lies stripe id is h own)
  where
    by_first : (b : Bool) → (i == id) ≡ b → (b || is_one_of id is) ≡ true → (is_one_of id is ≡ true → lies_in stripe is ≡ true) → lies_in stripe (i ∷ is) ≡ true
    by_first true same h more = ap (λ b. b || lies_in stripe is) ((unsigned_Decides (i % 64) stripe).1 (ap (λ k. k % 64) ((unsigned_Decides i id).0 same) ∙ own))
    by_first false other h more = ap (λ b. (i % 64 == stripe) || b) (more h) ∙ either_true (i % 64 == stripe)

-- a stripe of some paths is one of more paths
pub lies_more : (parts : Parts) (stripe : ℕ) (ps qs : List Path) → ((p : Path) → Among p ps → Among p qs) → lies_in stripe (ids_of parts ps) ≡ true → lies_in stripe (ids_of parts qs) ≡ true
lies_more parts stripe ps qs to e =
    let one = lies_one stripe (ids_of parts ps) e in
    let found = has_one (known parts ps) one.0 one.1 in
    let is = known_is parts ps (found.0, one.0) found.1 in
    one_lies stripe one.0 (ids_of parts qs) (one_has (known parts qs) (found.0, one.0) (known_has parts qs found.0 one.0 (to found.0 is.0) is.1)) one.2
