-- An effect that is shaped as it has to be leaves a tree.
use Rattle.std.proofs.Common.{◌≡◌, ◌⊎◌, inl, inr, ℕ, ◌+◌, Bool, true, false, cond, bytes_eq, List, [], ◌∷◌, ◌++◌, map, length, Option, Some, None, is_some, IfSome, refl, ap, sym, subst, ◌∙◌, append_assoc, arith}
use Rattle.std.proofs.lemmas.List.{append-nil}
use Rattle.std.proofs.lemmas.Slice.Eq.{bytes_eq-Decides}
use Rattle.std.proofs.lemmas.Bool.{false≢true, cases_Bool}
use Rattle.std.specs.FinMap.{find}
use Rattle.std.specs.FinMap.Entries.{is_some-find}
use Rattle.path_text.specs.Paths.{path_cmp, is_prefix}
use Rattle.path_text.specs.Texts.{KeepsLimits}
use Rattle.namespace_model.specs.Nodes.{Node, is_directory}
use Rattle.namespace_model.specs.Trees.{Path, Tree, at, parent, IsDirectory, IsDirectoryAt, IsLaid, IsTree}
use Rattle.namespace_model.specs.Effects.{Put, put_by, take_all, put_all, moved_by, renamed, effected}
use Rattle.namespace_model.specs.Outcomes.{Outcome}
use Rattle.namespace_model.specs.Locality.{Among}
use Rattle.namespace_model.specs.Shapes.{put_at, IsShaped, IsKeptDirectory, IsNewDirectory, KeepsKind, CanMove}
use Rattle.namespace_model.proofs.Lookups.{any_among, among_any}
use Rattle.namespace_model.proofs.Prefixes.{both, together, same_bytes, length_append, parent_of_child, parent_name, behind_front, front_of_append}
use Rattle.namespace_model.proofs.Effected.{is_in, in_tells, among_is_in, put_or, at-take_all, at-put_all, at-renamed_to, at-renamed_from, at-renamed_other}

some_not_none : {A : Type 0} (o : Option A) → is_some o ≡ true → o ≡ None → ⊥
some_not_none o e n = false≢true (sym (ap is_some n) ∙ e)

-- ---- what is put

-- a path at which something is put is one of the list
pub put_found : (p : Path) (xs : List (Path × Put)) (put : Put) → find path_cmp p xs ≡ Some put → Among p (map (λ (x : Path × Put). x.0) xs)
put_found p xs put e = any_among p (map (λ (x : Path × Put). x.0) xs) (sym (is_some-find path_cmp p xs) ∙ ap is_some e)

pub find_put : (p : Path) (xs : List (Path × Put)) → Among p (map (λ (x : Path × Put). x.0) xs) → (put : Put) × (find path_cmp p xs ≡ Some put)
find_put p xs h = taken_out (find path_cmp p xs) (is_some-find path_cmp p xs ∙ among_any p (map (λ (x : Path × Put). x.0) xs) h)
  where
    taken_out : (o : Option Put) → is_some o ≡ true → (put : Put) × (o ≡ Some put)
    taken_out None e = absurd (false≢true e)
    taken_out (Some put) e = (put, refl)

pub found_put : (p : Path) (xs : List (Path × Put)) → Among p (map (λ (x : Path × Put). x.0) xs) → (put : Put) × (find path_cmp p xs ≡ Some put)
found_put = find_put

pub kind_put : (k : ℕ) (put : Put) → is_directory (put_by k put) ≡ is_directory put.node
kind_put k put = by_stamp put.stamped
  where
    by_stamp : (b : Bool) → is_directory (cond b (record put.node { number = k }) put.node) ≡ is_directory put.node
    by_stamp true = refl
    by_stamp false = refl

-- ---- before the move

module _ (t : Tree) (is : IsTree t) (k : ℕ) (o : Outcome) (shape : IsShaped t o) where
  -- the tree once nodes are taken away and put
  abbrev pub middle : Tree
  middle = put_all k o.effect.puts (take_all o.effect.taken t)

  pub at-middle : (q : Path) → at middle q ≡ put_or k (put_at q o.effect) (cond (is_in q o.effect.taken) None (at t q))
  at-middle q = at-put_all k o.effect.puts (take_all o.effect.taken t) q ∙ ap (put_or k (put_at q o.effect)) (at-take_all o.effect.taken t q)

  pub new_directory_there : (p : Path) → IsNewDirectory o.effect p → IsDirectoryAt middle p
  new_directory_there p new =
      subst (λ n. IsDirectory n) (sym (at-middle p ∙ ap (λ f. put_or k f (cond (is_in p o.effect.taken) None (at t p))) new.found)) (kind_put k new.put ∙ new.directory)

  kept_if : (p : Path) (found : Option Put) → put_at p o.effect ≡ found → IsKeptDirectory t o.effect p → IsDirectory (put_or k found (cond (is_in p o.effect.taken) None (at t p)))
  kept_if p None e kept =
      elim (in_tells p o.effect.taken) [
        | inl h ↦ absurd (kept.stays h)
        | inr out ↦ subst (λ b. IsDirectory (cond b None (at t p))) (sym out) kept.there
      ]
  kept_if p (Some put) e kept = same_kind (at t p) kept.there (shape.growth.kinds p put e kept.stays)
    where
      same_kind : (old : Option Node) → IsDirectory old → KeepsKind old put → is_directory (put_by k put) ≡ true
      same_kind None d h = absurd d
      same_kind (Some x) d h = kind_put k put ∙ h ∙ d

  -- a directory that stays is there
  pub kept_directory_there : (p : Path) → IsKeptDirectory t o.effect p → IsDirectoryAt middle p
  kept_directory_there p kept = subst (λ n. IsDirectory n) (sym (at-middle p)) (kept_if p (put_at p o.effect) refl kept)

  -- what is there before the move was there and stays, or is new
  pub data From (q : Path) : Type 0 where
    old : is_some (at t q) ≡ true → (¬ Among q o.effect.taken) → From q
    new : Among q o.fresh → From q

  from_if : (q : Path) (found : Option Put) → put_at q o.effect ≡ found → is_some (put_or k found (cond (is_in q o.effect.taken) None (at t q))) ≡ true → From q
  from_if q None e there = elim (in_tells q o.effect.taken) [
    | inl h ↦ absurd (false≢true (sym (ap (λ b. is_some (cond b None (at t q))) (among_is_in q o.effect.taken h)) ∙ there))
    | inr out ↦ old (sym (ap (λ b. is_some (cond b None (at t q))) out) ∙ there) (λ h. false≢true (sym out ∙ among_is_in q o.effect.taken h))
  ]
  from_if q (Some put) e there = elim (shape.placed.put q (put_found q o.effect.puts put e)) [ inl h ↦ old h.0 h.1 | inr h ↦ new h ]

  pub middle_from : (q : Path) → is_some (at middle q) ≡ true → From q
  middle_from q there = from_if q (put_at q o.effect) refl (sym (ap is_some (at-middle q)) ∙ there)

  -- what is above a path that stays, stays
  above_stays : (p : Path) (n : List ℕ) → is_some (at t (p ++ n ∷ [])) ≡ true → (¬ Among (p ++ n ∷ []) o.effect.taken) → IsKeptDirectory t o.effect p
  above_stays p n there stays = record { there = is.parents p n there; stays = λ h. stays (shape.placed.taken_below p (n ∷ []) h there) }

  pub middle_is_laid : IsLaid middle
  middle_is_laid p n there = by_origin (middle_from (p ++ n ∷ []) there)
    where
      by_above : (q : Path) → IsKeptDirectory t o.effect q ⊎ IsNewDirectory o.effect q → IsDirectoryAt middle q
      by_above q (inl kept) = kept_directory_there q kept
      by_above q (inr made) = new_directory_there q made

      by_origin : From (p ++ n ∷ []) → IsDirectoryAt middle p
      by_origin (old was stays) = kept_directory_there p (above_stays p n was stays)
      by_origin (new fresh) = by_above p (subst (λ q. IsKeptDirectory t o.effect q ⊎ IsNewDirectory o.effect q) (parent_of_child p n) (shape.growth.above (p ++ n ∷ []) fresh))

  pub middle_root : IsDirectoryAt middle []
  middle_root = kept_directory_there [] (record { there = is.root; stays = shape.growth.account_stays })

  pub middle_limits : (q : Path) → is_some (at middle q) ≡ true → KeepsLimits q
  middle_limits q there = by_origin (middle_from q there)
    where
      by_origin : From q → KeepsLimits q
      by_origin (old was stays) = is.limits q was
      by_origin (new fresh) = shape.growth.limits q fresh

  pub middle_is_tree : IsTree middle
  middle_is_tree = record { root = middle_root; parents = middle_is_laid; limits = middle_limits }

-- ---- the move

-- of two fronts of one path one is a front of the other
pub comparable : (b a r : Path) → is_prefix b (a ++ r) ≡ true → (is_prefix b a ≡ true) ⊎ (is_prefix a b ≡ true)
comparable [] a r e = inl refl
comparable (n ∷ b) [] r e = inr refl
comparable (n ∷ b) (m ∷ a) r e =
    let parts = both (bytes_eq n m) (is_prefix b (a ++ r)) e in
    elim (comparable b a r parts.1) [
      | inl h ↦ inl (together parts.0 h)
      | inr h ↦ inr (together (subst (λ k. bytes_eq m k ≡ true) (sym ((bytes_eq-Decides n m).0 parts.0)) (same_bytes m)) h)
    ]

-- of two paths that are apart nothing below one is below the other
pub apart_below : (a b r : Path) → is_prefix a b ≡ false → is_prefix b a ≡ false → is_prefix b (a ++ r) ≡ false
apart_below a b r one two = elim (cases_Bool (is_prefix b (a ++ r))) [
  | inl h ↦ elim (comparable b a r h) [ inl k ↦ absurd (false≢true (sym two ∙ k)) | inr k ↦ absurd (false≢true (sym one ∙ k)) ]
  | inr h ↦ h
]

-- a path without its last name, behind a front of it
split_end : (p b r : Path) (n : List ℕ) → p ++ n ∷ [] ≡ b ++ r → (p ++ n ∷ [] ≡ b) ⊎ ((s : Path) × (m : List ℕ) × (r ≡ s ++ m ∷ []) × (p ≡ b ++ s))
split_end p b r n e = by_end (parent_name r)
  where
    by_end : (r ≡ []) ⊎ ((m : List ℕ) × (r ≡ parent r ++ m ∷ [])) → (p ++ n ∷ [] ≡ b) ⊎ ((s : Path) × (m : List ℕ) × (r ≡ s ++ m ∷ []) × (p ≡ b ++ s))
    by_end (inl none) = inl (e ∙ ap (λ x. b ++ x) none ∙ append-nil b)
    by_end (inr h) =
        let whole : p ++ n ∷ [] ≡ (b ++ parent r) ++ h.0 ∷ [] = e ∙ ap (λ x. b ++ x) h.1 ∙ sym (append_assoc b (parent r) (h.0 ∷ [])) in
        inr (parent r, h.0, h.1, sym (parent_of_child p n) ∙ ap parent whole ∙ parent_of_child (b ++ parent r) h.0)

not_front : (a p : Path) (n : List ℕ) → is_prefix a (p ++ n ∷ []) ≡ false → is_prefix a p ≡ false
not_front a p n e = elim (cases_Bool (is_prefix a p)) [
  | inl h ↦ let rest = behind_front a p h in
      absurd (false≢true (sym e ∙ ap (is_prefix a) (ap (λ x. x ++ n ∷ []) rest.1 ∙ append_assoc a rest.0 (n ∷ [])) ∙ front_of_append a (rest.0 ++ n ∷ [])))
  | inr h ↦ h
]

module _ (u : Tree) (is : IsTree u) (a b : Path) (source_apart : is_prefix a b ≡ false) (destination_apart : is_prefix b a ≡ false) (free : at u b ≡ None) (above : IsDirectoryAt u (parent b))
    (limits : (r : Path) → is_some (at u (a ++ r)) ≡ true → KeepsLimits (b ++ r)) where
  -- the destination is one name below its parent, which is neither below it nor below the source
  destination_name : (n : List ℕ) × (b ≡ parent b ++ n ∷ [])
  destination_name = elim (parent_name b) [
    | inl e ↦ absurd (false≢true (sym destination_apart ∙ ap (λ x. is_prefix x a) e))
    | inr h ↦ h
  ]

  parent_outside : (is_prefix b (parent b) ≡ false) × (is_prefix a (parent b) ≡ false)
  parent_outside =
      let name = destination_name in (
        elim (cases_Bool (is_prefix b (parent b))) [
          | inl h ↦ absurd (too_long b (parent b) name.0 name.1 h)
          | inr h ↦ h
        ],
        not_front a (parent b) name.0 (sym (ap (is_prefix a) name.1) ∙ source_apart),
      )
    where
      too_long : (b p : Path) (n : List ℕ) → b ≡ p ++ n ∷ [] → is_prefix b p ≡ true → ⊥
      too_long b p n e h =
          let rest = behind_front b p h in
          let long : length p ≡ length b + length rest.0 = ap (λ (x : Path). length x) rest.1 ∙ length_append b rest.0 in
          let short : length b ≡ length p + 1 = ap (λ (x : Path). length x) e ∙ length_append p (n ∷ []) in
          absurd (omega arith)

  renamed_laid : IsLaid (renamed u a b)
  renamed_laid p n there = elim (cases_Bool (is_prefix b (p ++ n ∷ []))) [
    | inl under ↦
        let rest = behind_front b (p ++ n ∷ []) under in
        elim (split_end p b rest.0 n rest.1) [
          | inl same ↦ subst (λ x. IsDirectoryAt (renamed u a b) x) (ap parent (sym same) ∙ parent_of_child p n)
              (subst (λ x. IsDirectory x) (sym (at-renamed_other u a b (parent b) parent_outside.0 parent_outside.1)) above)
          | inr h ↦
              let moved_there : is_some (at u (a ++ (h.0 ++ h.1 ∷ []))) ≡ true =
              sym (ap is_some (ap (at (renamed u a b)) (rest.1 ∙ ap (λ x. b ++ x) h.2) ∙ at-renamed_to u a b (h.0 ++ h.1 ∷ []) (apart_below a b (h.0 ++ h.1 ∷ []) source_apart destination_apart))) ∙ there in
              let dir : IsDirectoryAt u (a ++ h.0) = is.parents (a ++ h.0) h.1 (subst (λ x. is_some (at u x) ≡ true) (sym (append_assoc a h.0 (h.1 ∷ []))) moved_there) in
              subst (λ x. IsDirectoryAt (renamed u a b) x) (sym h.3) (subst (λ x. IsDirectory x) (sym (at-renamed_to u a b h.0 (apart_below a b h.0 source_apart destination_apart))) dir)
        ]
    | inr out ↦ elim (cases_Bool (is_prefix a (p ++ n ∷ []))) [
      | inl under ↦ absurd (false≢true (sym (ap is_some (at-renamed_from u a b (p ++ n ∷ []) out under)) ∙ there))
      | inr apart ↦
          let was : is_some (at u (p ++ n ∷ [])) ≡ true = sym (ap is_some (at-renamed_other u a b (p ++ n ∷ []) out apart)) ∙ there in
          subst (λ x. IsDirectory x) (sym (at-renamed_other u a b p (not_front b p n out) (not_front a p n apart))) (is.parents p n was)
    ]
  ]

  renamed_limits : (q : Path) → is_some (at (renamed u a b) q) ≡ true → KeepsLimits q
  renamed_limits q there = elim (cases_Bool (is_prefix b q)) [
    | inl under ↦
        let rest = behind_front b q under in
        subst KeepsLimits (sym rest.1) (limits rest.0 (sym (ap is_some (ap (at (renamed u a b)) rest.1 ∙ at-renamed_to u a b rest.0 (apart_below a b rest.0 source_apart destination_apart))) ∙ there))
    | inr out ↦ elim (cases_Bool (is_prefix a q)) [
      | inl under ↦ absurd (false≢true (sym (ap is_some (at-renamed_from u a b q out under)) ∙ there))
      | inr apart ↦ is.limits q (sym (ap is_some (at-renamed_other u a b q out apart)) ∙ there)
    ]
  ]

  not_root : (x y : Path) → is_prefix x y ≡ false → is_prefix x [] ≡ false
  not_root [] y e = absurd (false≢true (sym e))
  not_root (n ∷ x) y e = refl

  pub renamed_is_tree : IsTree (renamed u a b)
  renamed_is_tree = record {
    root = subst (λ x. IsDirectory x) (sym (at-renamed_other u a b [] (not_root b a destination_apart) (not_root a b source_apart))) is.root;
    parents = renamed_laid;
    limits = renamed_limits;
  }

module _ (t : Tree) (is : IsTree t) (k : ℕ) (o : Outcome) (shape : IsShaped t o) where
  -- the destination of a move is free once what stood there is taken away
  pub destination_free : (m : Path × Path) → CanMove t o.fresh o.effect m → at (middle t is k o shape) m.1 ≡ None
  destination_free m can = none_from (at (middle t is k o shape) m.1) refl
    where
      contradiction : From t is k o shape m.1 → ⊥
      contradiction (old was stays) = elim can.free [ inl none ↦ some_not_none (at t m.1) was none | inr gone ↦ stays gone ]
      contradiction (new fresh) = subst (λ l. Among m.1 l) can.nothing_new fresh

      none_from : (n : Option Node) → at (middle t is k o shape) m.1 ≡ n → at (middle t is k o shape) m.1 ≡ None
      none_from None e = e
      none_from (Some x) e = absurd (contradiction (middle_from t is k o shape m.1 (ap is_some e)))

  moved_is_tree : (move : Option (Path × Path)) → IfSome move (CanMove t o.fresh o.effect) → IsTree (moved_by move (middle t is k o shape))
  moved_is_tree None can = middle_is_tree t is k o shape
  moved_is_tree (Some m) can =
      renamed_is_tree (middle t is k o shape) (middle_is_tree t is k o shape) m.0 m.1 can.source_apart can.destination_apart (destination_free m can) (kept_directory_there t is k o shape (parent m.1) can.above)
      (λ r there. by_origin m can r (middle_from t is k o shape (m.0 ++ r) there))
    where
      by_origin : (m : Path × Path) → CanMove t o.fresh o.effect m → (r : Path) → From t is k o shape (m.0 ++ r) → KeepsLimits (m.1 ++ r)
      by_origin m can r (old was stays) = can.limits r was
      by_origin m can r (new fresh) = absurd (subst (λ l. Among (m.0 ++ r) l) can.nothing_new fresh)

  -- a shaped effect leaves a tree
  pub effected_is_tree : IsTree (effected k o.effect t)
  effected_is_tree = moved_is_tree o.effect.move shape.growth.moved
