-- The effect of a create lies on the tree as it has to.
use Rattle.std.proofs.Common.{◌≡◌, ◌⊎◌, inl, inr, ℕ, suc, ◌+◌, true, false, cond, List, [], ◌∷◌, ◌++◌, map, length, Option, Some, None, is_some, refl, ap, sym, subst, ◌∙◌, append_assoc, arith}
use Rattle.std.proofs.lemmas.Bool.{false≢true}
use Rattle.std.proofs.lemmas.List.{append-nil}
use Rattle.std.specs.Ordering.{eq_by_cmp}
use Rattle.std.specs.FinMap.{find}
use Rattle.path_text.specs.Paths.{path_cmp}
use Rattle.path_text.specs.Texts.{KeepsLimits}
use Rattle.namespace_model.specs.declared.request.Entry.{Entry}
use Rattle.namespace_model.specs.Nodes.{Node, is_directory}
use Rattle.namespace_model.specs.Trees.{Path, Tree, at, parent, IsDirectoryAt, IsLaid, IsTree}
use Rattle.namespace_model.specs.Effects.{Put, stamp}
use Rattle.namespace_model.specs.Locality.{Among}
use Rattle.namespace_model.specs.Create.{Making, new_nodes, new_directory}
use Rattle.namespace_model.specs.Shapes.{HasShape, IsKeptDirectory, IsNewDirectory, KeepsKind}
use Rattle.namespace_model.proofs.Lookups.{path_tells, same_path}
use Rattle.namespace_model.proofs.Prefixes.{parent_of_child, length_append}
use Rattle.namespace_model.proofs.Alikeness.{nothing_below}
use Rattle.namespace_model.proofs.Limits.{limits_front}
use Rattle.namespace_model.proofs.TreeKept.{put_found}
use Rattle.namespace_model.proofs.ShapedEdits.{not_empty}

-- the paths of new nodes
abbrev pub paths_of : List (Path × Put) → List Path
paths_of puts = map (λ (x : Path × Put). x.0) puts

-- a new path is the last directory's, and some of the names from the first one on
pub new_inside : (e : Entry) (m : Making) (over : Node) (done names q : Path) → Among q (paths_of (new_nodes e m over done names))
    → (n : List ℕ) × (f : Path) × (g : Path) × (names ≡ (n ∷ f) ++ g) × (q ≡ done ++ n ∷ f)
new_inside e m over done [] q h = absurd h
new_inside e m over done (n ∷ []) q (inl is) = (n, [], [], refl, is)
new_inside e m over done (n ∷ []) q (inr h) = absurd h
new_inside e m over done (n ∷ o ∷ names) q (inl is) = (n, [], o ∷ names, refl, is)
new_inside e m over done (n ∷ o ∷ names) q (inr h) =
    let rest = new_inside e m (new_directory e m over) (done ++ n ∷ []) (o ∷ names) q h in
    (n, rest.0 ∷ rest.1, rest.2, ap (λ p. n ∷ p) rest.3, rest.4 ∙ append_assoc done (n ∷ []) (rest.0 ∷ rest.1))

-- a path that is longer than another one is another one
longer_differs : (q d : Path) (n m : List ℕ) (f : Path) → q ≡ (d ++ n ∷ []) ++ m ∷ f → eq_by_cmp path_cmp q (d ++ n ∷ []) ≡ false
longer_differs q d n m f e = elim (path_tells q (d ++ n ∷ [])) [
  | inl same ↦
      let long : length q ≡ length (d ++ n ∷ []) + length (m ∷ f) = ap (λ (p : Path). length p) e ∙ length_append (d ++ n ∷ []) (m ∷ f) in
      let short : length q ≡ length (d ++ n ∷ []) = ap (λ (p : Path). length p) same in
      let some : length (m ∷ f) ≡ suc (length f) = refl in
      absurd (omega arith)
  | inr other ↦ other
]

-- what is above a new path is the last directory, or a new directory
pub new_above : (e : Entry) (m : Making) (over : Node) (done names q : Path) → Among q (paths_of (new_nodes e m over done names))
    → (parent q ≡ done) ⊎ ((put : Put) × (find path_cmp (parent q) (new_nodes e m over done names) ≡ Some put) × (is_directory put.node ≡ true))
new_above e m over done [] q h = absurd h
new_above e m over done (n ∷ []) q (inl is) = inl (ap parent is ∙ parent_of_child done n)
new_above e m over done (n ∷ []) q (inr h) = absurd h
new_above e m over done (n ∷ o ∷ names) q (inl is) = inl (ap parent is ∙ parent_of_child done n)
new_above e m over done (n ∷ o ∷ names) q (inr h) = further (new_above e m (new_directory e m over) (done ++ n ∷ []) (o ∷ names) q h)
  where
    further : (parent q ≡ done ++ n ∷ []) ⊎ ((put : Put) × (find path_cmp (parent q) (new_nodes e m (new_directory e m over) (done ++ n ∷ []) (o ∷ names)) ≡ Some put) × (is_directory put.node ≡ true))
        → (parent q ≡ done) ⊎ ((put : Put) × (find path_cmp (parent q) (new_nodes e m over done (n ∷ o ∷ names)) ≡ Some put) × (is_directory put.node ≡ true))
    further (inl same) =
        inr (
          stamp e.moment (new_directory e m over),
          ap (λ b. cond b (Some (stamp e.moment (new_directory e m over))) (find path_cmp (parent q) (new_nodes e m (new_directory e m over) (done ++ n ∷ []) (o ∷ names)))) (ap (λ p. eq_by_cmp path_cmp p (done ++ n ∷ [])) same ∙ same_path (done ++ n ∷ [])),
          refl,
        )
    further (inr rest) =
        let place = new_inside e m (new_directory e m over) (done ++ n ∷ []) (o ∷ names) (parent q) (put_found (parent q) (new_nodes e m (new_directory e m over) (done ++ n ∷ []) (o ∷ names)) rest.0 rest.1) in
        inr (
          rest.0,
          ap (λ b. cond b (Some (stamp e.moment (new_directory e m over))) (find path_cmp (parent q) (new_nodes e m (new_directory e m over) (done ++ n ∷ []) (o ∷ names)))) (longer_differs (parent q) done n place.0 place.1 place.4) ∙ rest.1,
          rest.2,
        )

limits_of_front : (q r : Path) → (q ≡ [] → ⊥) → KeepsLimits (q ++ r) → KeepsLimits q
limits_of_front [] r some is = absurd (some refl)
limits_of_front (fs ∷ q) r some is = limits_front fs q r is

-- What a create takes away: nothing, where the first name is missing; or the node at the path, which is bare, where it is the only name.
pub record IsReplaced (t : Tree) (base names : Path) (replaced : List Path) : Type 0 where
  pub free : (n : List ℕ) (f g : Path) → names ≡ (n ∷ f) ++ g → (at t (base ++ n ∷ f) ≡ None) ⊎ Among (base ++ n ∷ f) replaced
  pub below : (p q : Path) → Among p replaced → is_some (at t (p ++ q)) ≡ true → Among (p ++ q) replaced
  pub new_too : (p : Path) → Among p replaced → (n : List ℕ) × (names ≡ n ∷ []) × (p ≡ base ++ n ∷ [])

module _ (t : Tree) (is : IsTree t) (e : Entry) (m : Making) (x : Node) (base names : Path) (replaced : List Path) (gone : IsReplaced t base names replaced)
    (dir : IsDirectoryAt t base) (limits : KeepsLimits (base ++ names)) where
  puts : List (Path × Put)
  puts = new_nodes e m x base names

  one_path : (p : Path) (n : List ℕ) → p ≡ base ++ n ∷ [] → names ≡ n ∷ [] → Among p (paths_of (new_nodes e m x base names))
  one_path p n at_p only = subst (λ l. Among p (paths_of (new_nodes e m x base l))) (sym only) (inl at_p)

  base_stays : Among base replaced → ⊥
  base_stays h =
      let one = gone.new_too base h in
      let long : length base ≡ length base + 1 = ap (λ (p : Path). length p) one.2 ∙ length_append base (one.0 ∷ []) in
      absurd (omega arith)

  pub made_shaped : HasShape t (base ∷ paths_of (new_nodes e m x base names)) (paths_of (new_nodes e m x base names)) (record { taken = replaced; puts = new_nodes e m x base names; move = None })
  made_shaped = record {
    writes = record {
      taken_too = λ p h. let one = gone.new_too p h in inr (one_path p one.0 one.2 one.1);
      put_too = λ p h. inr h;
      fresh_too = λ p h. inr h;
      above_taken = λ p h. let one = gone.new_too p h in inl (ap parent one.2 ∙ parent_of_child base one.0);
      above_fresh = λ p h. above_written p (new_above e m x base names p h);
      moved = tt;
    };
    placed = record {
      taken_below = gone.below;
      put = λ p h. inr h;
      fresh_put = λ p h. h;
      fresh_free = λ p h. free_at p h;
    };
    growth = record {
      kinds = λ p put found stays. kind_at p put (put_found p (new_nodes e m x base names) put found) stays;
      limits = λ p h. limits_at p (new_inside e m x base names p h);
      above = λ p h. above_kept p (new_above e m x base names p h);
      account_old = λ h. let place = new_inside e m x base names [] h in not_empty base place.0 place.1 (sym place.4);
      account_stays = λ h. let one = gone.new_too [] h in not_empty base one.0 [] (sym one.2);
      moved = tt;
    };
  }
    where
      above_written : (p : Path) → (parent p ≡ base) ⊎ ((put : Put) × (find path_cmp (parent p) (new_nodes e m x base names) ≡ Some put) × (is_directory put.node ≡ true)) → Among (parent p) (base ∷ paths_of (new_nodes e m x base names))
      above_written p (inl h) = inl h
      above_written p (inr h) = inr (put_found (parent p) (new_nodes e m x base names) h.0 h.1)

      free_at : (p : Path) → Among p (paths_of (new_nodes e m x base names)) → (at t p ≡ None) ⊎ Among p replaced
      free_at p h =
          let place = new_inside e m x base names p h in
          subst (λ q. (at t q ≡ None) ⊎ Among q replaced) (sym place.4) (gone.free place.0 place.1 place.2 place.3)

      kind_at : (p : Path) (put : Put) → Among p (paths_of (new_nodes e m x base names)) → (Among p replaced → ⊥) → KeepsKind (at t p) put
      kind_at p put h stays = elim (free_at p h) [ inl none ↦ subst (λ (o : Option Node). KeepsKind o put) (sym none) tt | inr k ↦ absurd (stays k) ]

      limits_at : (p : Path) → ((n : List ℕ) × (f : Path) × (g : Path) × (names ≡ (n ∷ f) ++ g) × (p ≡ base ++ n ∷ f)) → KeepsLimits p
      limits_at p place =
          let whole : base ++ names ≡ (base ++ place.0 ∷ place.1) ++ place.2 = ap (λ l. base ++ l) place.3 ∙ sym (append_assoc base (place.0 ∷ place.1) place.2) in
          subst KeepsLimits (sym place.4) (limits_of_front (base ++ place.0 ∷ place.1) place.2 (not_empty base place.0 place.1) (subst KeepsLimits whole limits))

      above_kept : (p : Path) → (parent p ≡ base) ⊎ ((put : Put) × (find path_cmp (parent p) (new_nodes e m x base names) ≡ Some put) × (is_directory put.node ≡ true))
          → IsKeptDirectory t (record { taken = replaced; puts = new_nodes e m x base names; move = None }) (parent p) ⊎ IsNewDirectory (record { taken = replaced; puts = new_nodes e m x base names; move = None }) (parent p)
      above_kept p (inl h) = inl (record { there = subst (λ q. IsDirectoryAt t q) (sym h) dir; stays = λ k. base_stays (subst (λ q. Among q replaced) h k) })
      above_kept p (inr h) = inr (record { put = h.0; found = h.1; directory = h.2 })

-- nothing is taken away where the first name is missing
pub nothing_replaced : (t : Tree) → IsLaid t → (base : Path) (n : List ℕ) (names : Path) → at t (base ++ n ∷ []) ≡ None → IsReplaced t base (n ∷ names) []
nothing_replaced t laid base n names none = record {
  free = λ m f g e. inl (none_at m f g e);
  below = λ p q h. absurd h;
  new_too = λ p h. absurd h;
}
  where
    none_of : (o : Option Node) → is_some o ≡ false → o ≡ None
    none_of None e = refl
    none_of (Some x) e = absurd (false≢true (sym e))

    at_first : (f : Path) → is_some (at t (base ++ n ∷ f)) ≡ false
    at_first [] = ap is_some none
    at_first (m ∷ f) = subst (λ q. is_some (at t q) ≡ false) (append_assoc base (n ∷ []) (m ∷ f)) (nothing_below t laid (base ++ n ∷ []) m f (ap is_some none))

    head_of : (m : List ℕ) (f g : Path) → n ∷ names ≡ (m ∷ f) ++ g → n ≡ m
    head_of m f g e = ap (first n) e
      where
        first : List ℕ → Path → List ℕ
        first d [] = d
        first d (z ∷ zs) = z

    none_at : (m : List ℕ) (f g : Path) → n ∷ names ≡ (m ∷ f) ++ g → at t (base ++ m ∷ f) ≡ None
    none_at m f g e = subst (λ k. at t (base ++ k ∷ f) ≡ None) (head_of m f g e) (none_of (at t (base ++ n ∷ f)) (at_first f))

-- the node at the path is taken away where nothing stands below it
pub one_replaced : (t : Tree) (base : Path) (n : List ℕ) → ((k : List ℕ) (r : Path) → is_some (at t ((base ++ n ∷ []) ++ k ∷ r)) ≡ false) → IsReplaced t base (n ∷ []) ((base ++ n ∷ []) ∷ [])
one_replaced t base n bare = record {
  free = λ m f g e. inr (inl (whole m f g e));
  below = λ p q h there. below p q h there;
  new_too = λ p h. elim h [ inl e ↦ (n, refl, e) | inr k ↦ absurd k ];
}
  where
    whole : (m : List ℕ) (f g : Path) → n ∷ [] ≡ (m ∷ f) ++ g → base ++ m ∷ f ≡ base ++ n ∷ []
    whole m [] [] e = ap (λ p. base ++ p) (sym e)
    whole m [] (o ∷ g) e = absurd (let l : 1 ≡ length ((m ∷ []) ++ o ∷ g) = ap (λ (p : Path). length p) e in let k : length ((m ∷ []) ++ o ∷ g) ≡ suc (suc (length g)) = refl in omega arith)
    whole m (o ∷ f) g e = absurd (let l : 1 ≡ length ((m ∷ o ∷ f) ++ g) = ap (λ (p : Path). length p) e in let k : length ((m ∷ o ∷ f) ++ g) ≡ suc (suc (length (f ++ g))) = refl in omega arith)

    below : (p q : Path) → Among p ((base ++ n ∷ []) ∷ []) → is_some (at t (p ++ q)) ≡ true → Among (p ++ q) ((base ++ n ∷ []) ∷ [])
    below p [] (inl e) there = inl (append-nil p ∙ e)
    below p (k ∷ r) (inl e) there = absurd (false≢true (sym (bare k r) ∙ subst (λ d. is_some (at t (d ++ k ∷ r)) ≡ true) e there))
    below p q (inr h) there = absurd h
