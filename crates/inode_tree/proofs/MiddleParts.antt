-- The parts after an effect, and the tree before its move: where each path that is there then has its id, and what stands there.
use Rattle.std.proofs.Common.{◌≡◌, ◌⊎◌, inl, inr, ℕ, ◌%◌, ◌<◌, Bool, true, false, cond, List, [], ◌∷◌, ◌++◌, map, zip, length, slice_get, Option, Some, None, IfSome, is_some, IsSome, refl, ap, sym, subst, ◌∙◌, arith}
use Rattle.std.proofs.lemmas.Bool.{false≢true, cases_Bool}
use Rattle.std.proofs.lemmas.Option.{same_Some, slice_get_cases}
use Rattle.std.proofs.Math.Nat.{mod-lt}
use Rattle.std.proofs.Math.Dec.{lit<}
use Rattle.std.specs.Ordering.{eq_by_cmp}
use Rattle.std.specs.Cmp.{unsigned_Decides}
use Rattle.std.specs.FinMap as fin
use Rattle.std.specs.FinMap.{find}
use Rattle.path_text.specs.Paths.{path_cmp}
use Rattle.namespace_model.specs.Nodes as model
use Rattle.namespace_model.specs.Nodes.{Node, is_directory, is_directory_content, kind_of, kind_of_content}
use Rattle.namespace_model.specs.Trees.{Path, Tree, at, parent, IsDirectory, IsTree}
use Rattle.namespace_model.specs.Effects.{Put, put_by, Effect}
use Rattle.namespace_model.specs.Outcomes.{Outcome}
use Rattle.namespace_model.specs.Locality.{Among}
use Rattle.namespace_model.specs.Shapes.{put_at, IsShaped, IsKeptDirectory, IsNewDirectory, KeepsKind, CanMove, WritesMove}
use Rattle.namespace_model.proofs.Prefixes.{parent_of_child}
use Rattle.namespace_model.proofs.Effected.{is_in, in_tells, among_is_in, put_or}
use Rattle.namespace_model.proofs.TreeKept.{put_found, found_put, kind_put, middle, at-middle}
use Rattle.inode_tree.specs.Inodes.{BareContent, directory, file, BareInode, Links, links_in, node_content, node_of}
use Rattle.inode_tree.specs.ChildLists.{name_cmp}
use Rattle.inode_tree.specs.Changes.{Part}
use Rattle.inode_tree.specs.Parts.{Parts, inode_at, child_of, follow, id_at}
use Rattle.inode_tree.specs.Stands.{Stands}
use Rattle.inode_tree.specs.Index.{Places, IsIndex}
use Rattle.inode_tree.specs.After.{Relink, id_in, relinked, relinked_in, move_links, relinks, turns, gone, stays_at, stays, turned, content_with, inode_with, parts_after, known}
use Rattle.inode_tree.proofs.FrameLemmas.{short_id}
use Rattle.inode_tree.proofs.IndexLemmas.{there, some_there, index_from_stands, reached_short, cut_follow}
use Rattle.inode_tree.proofs.LinkLemmas.{last_link, last-append, get-relinked, last-taken, path_differs}
use Rattle.inode_tree.proofs.TurnLemmas.{Within, Lacks, HasIdsOnce, lacks_all, turned_by, inode-after, left_alone, turned_known, turned_drawn, number_tells, within_differs}
use Rattle.inode_tree.proofs.PairLemmas.{IsOnce, known_has, known_is, known_once, find_known, zip_is, zip_has, zip_ids_once, drawn_links, drawn_unsaid, drawn_said}

-- What stands at an id, as the node of a path, where its names lead, and what the tree has at the path.
pub record Seated (new : Parts) (id : ℕ) (node : Option Node) (leads : List ℕ → Option ℕ) : Type 0 where
  pub inode : BareInode
  pub found : inode_at new id ≡ Some inode
  pub kind : inode.meta.kind ≡ kind_of (node_of inode)
  pub shows : node ≡ Some (node_of inode)
  pub names : (n : List ℕ) → child_of inode n ≡ leads n

-- An index but for what a move says last.
pub record IsMiddle (new : Parts) (t : Tree) (ids : Path → Option ℕ) (move : List Relink) : Type 0 where
  pub account : ids [] ≡ Some 0
  pub places : (p : Path) (id : ℕ) → ids p ≡ Some id → Seated new id (at t p) (λ n. last_link move (p ++ n ∷ []) (ids (p ++ n ∷ [])))
  pub nothing : (p : Path) → ids p ≡ None → at t p ≡ None
  pub once : (p q : Path) (id : ℕ) → ids p ≡ Some id → ids q ≡ Some id → p ≡ q
  pub kept : (id : ℕ) → IsSome (inode_at new id) → (p : Path) × (ids p ≡ Some id)

-- ---- inodes

node-content : (c : model.Content) (links : Links) → node_content (content_with c links) ≡ c
node-content model.directory links = refl
node-content (model.file bytes staged) links = refl

-- the node that was put is the one that is seen
pub node-inode : (x : Node) (links : Links) → node_of (inode_with x links) ≡ x
node-inode x links = ap (λ c. record x { content = c }) (node-content x.content links)

-- a file has no names
pub no_names : (c : BareContent) → is_directory_content (node_content c) ≡ false → (n : List ℕ) → fin.get (links_in c) n ≡ None
no_names (directory links) h n = absurd (false≢true (sym h))
no_names (file bytes staged) h n = fin.get-empty name_cmp n

content_kind : (x : Node) (links : Links) → is_directory_content (node_content (content_with x.content links)) ≡ is_directory x
content_kind x links = ap is_directory_content (node-content x.content links)

names_with : (x : Node) (links : Links) (n : List ℕ) → is_directory x ≡ true → child_of (inode_with x links) n ≡ fin.get links n
names_with x links n h = by_content x.content h
  where
    by_content : (c : model.Content) → is_directory_content c ≡ true → fin.get (links_in (content_with c links)) n ≡ fin.get links n
    by_content model.directory k = refl
    by_content (model.file bytes staged) k = absurd (false≢true k)

relinked_node : (p : Path) (ls : List Relink) (c : BareContent) → node_content (relinked_in p ls c) ≡ node_content c
relinked_node p ls (directory links) = refl
relinked_node p ls (file bytes staged) = refl

relinked_names : (p : Path) (ls : List Relink) (c : BareContent) (n : List ℕ) → is_directory_content (node_content c) ≡ true
    → fin.get (links_in (relinked_in p ls c)) n ≡ last_link ls (p ++ n ∷ []) (fin.get (links_in c) n)
relinked_names p ls (directory links) n h = get-relinked p n ls links
relinked_names p ls (file bytes staged) n h = absurd (false≢true h)

relinked_file : (p : Path) (ls : List Relink) (c : BareContent) (n : List ℕ) → is_directory_content (node_content c) ≡ false → fin.get (links_in (relinked_in p ls c)) n ≡ None
relinked_file p ls c n h = no_names (relinked_in p ls c) (ap is_directory_content (relinked_node p ls c) ∙ h) n

id_tells : (id : ℕ) (xs : List (Path × ℕ)) → ((x : Path × ℕ) × Within x xs × (x.1 ≡ id)) ⊎ Lacks id xs
id_tells id [] = inr tt
id_tells id (x ∷ xs) = elim (number_tells x.1 id) [
  | inl e ↦ inl (x, inl refl, e)
  | inr other ↦ elim (id_tells id xs) [
    | inl h ↦ inl (h.0, inr h.1, h.2)
    | inr lacks ↦ inr ((λ e. false≢true (sym other ∙ (unsigned_Decides x.1 id).1 e)), lacks)
  ]
]

same_pair : (xs : List (Path × ℕ)) → HasIdsOnce xs → (x y : Path × ℕ) → Within x xs → Within y xs → x.1 ≡ y.1 → x ≡ y
same_pair [] once x y a b e = absurd a
same_pair (z ∷ zs) once x y (inl a) (inl b) e = a ∙ sym b
same_pair (z ∷ zs) once x y (inl a) (inr b) e = absurd (within_differs z.1 zs y once.0 b (sym e ∙ ap (λ (w : Path × ℕ). w.1) a))
same_pair (z ∷ zs) once x y (inr a) (inl b) e = absurd (within_differs z.1 zs x once.0 a (e ∙ ap (λ (w : Path × ℕ). w.1) b))
same_pair (z ∷ zs) once x y (inr a) (inr b) e = same_pair zs once.1 x y a b e

none_some : {A : Type 0} (x : A) → ◌≡◌ {A = Option A} None (Some x) → ⊥
none_some x e = false≢true (ap is_some e)

not_among : (q : Path) (ps : List Path) → is_in q ps ≡ false → Among q ps → ⊥
not_among q ps out h = false≢true (sym out ∙ among_is_in q ps h)

is_there : (o : Option Node) (x : Node) → o ≡ Some x → is_some o ≡ true
is_there o x e = ap is_some e

either_none : {A : Type 0} (b : Bool) → cond {A = Option A} b None None ≡ None
either_none true = refl
either_none false = refl

-- what is said last of a path: by the move, of a new path, of one that is taken away
relinks_said : (e : Effect) (kn dr : List (Path × ℕ)) (q : Path) (before : Option ℕ)
    → last_link (relinks e kn dr) q before ≡ last_link (move_links e.move kn) q (last_link (drawn_links dr) q (cond (is_in q e.taken) None before))
relinks_said e kn dr q before =
    last-append (map (λ (p : Path). (p, None)) e.taken ++ map (λ (x : Path × ℕ). (x.0, Some x.1)) dr) (move_links e.move kn) q before
    ∙ ap (last_link (move_links e.move kn) q) (last-append (map (λ (p : Path). (p, None)) e.taken) (map (λ (x : Path × ℕ). (x.0, Some x.1)) dr) q before
    ∙ ap (last_link (map (λ (x : Path × ℕ). (x.0, Some x.1)) dr) q) (last-taken e.taken q before))

-- ---- the effect

module _ (parts : Parts) (t : Tree) (stands : Stands parts t) (number : ℕ) (o : Outcome) (shape : IsShaped t o) (written_once : IsOnce o.written) (fresh_once : IsOnce o.fresh)
    (ids : List ℕ) (as_many : length ids ≡ length o.fresh) (ids_once : (j k id : ℕ) → slice_get ids j ≡ Some id → slice_get ids k ≡ Some id → j ≡ k)
    (free : (k id : ℕ) → slice_get ids k ≡ Some id → inode_at parts id ≡ None) where
  abbrev old_id : Path → Option ℕ
  old_id p = follow parts 0 p

  index : IsIndex parts t (follow parts 0)
  index = index_from_stands parts t stands

  abbrev kn : List (Path × ℕ)
  kn = known parts o.written

  abbrev dr : List (Path × ℕ)
  dr = zip o.fresh ids

  abbrev mv : List Relink
  mv = move_links o.effect.move kn

  abbrev ls : List Relink
  ls = relinks o.effect kn dr

  abbrev new : Parts
  new = parts_after 0 number (turns o.effect ls kn dr) parts

  -- the ids before the move
  abbrev pub mid : Path → Option ℕ
  mid q = last_link (drawn_links dr) q (cond (is_in q o.effect.taken) None (old_id q))

  said : (q : Path) (before : Option ℕ) → last_link ls q before ≡ last_link mv q (last_link (drawn_links dr) q (cond (is_in q o.effect.taken) None before))
  said q before = relinks_said o.effect kn dr q before

  mid_new : (q : Path) (id : ℕ) → Within (q, id) dr → mid q ≡ Some id
  mid_new q id h = drawn_said o.fresh ids q id (cond (is_in q o.effect.taken) None (old_id q)) fresh_once h

  mid_old : (q : Path) → (Among q o.fresh → ⊥) → mid q ≡ cond (is_in q o.effect.taken) None (old_id q)
  mid_old q h = drawn_unsaid o.fresh ids q (cond (is_in q o.effect.taken) None (old_id q)) h

  old_there : (q : Path) (id : ℕ) → old_id q ≡ Some id → is_some (at t q) ≡ true
  old_there q id e = ap is_some (index.places q id e).shows

  -- a path that is there has an id
  there_old : (q : Path) → is_some (at t q) ≡ true → IsSome (old_id q)
  there_old q h = by_id (old_id q) refl
    where
      by_id : (i : Option ℕ) → old_id q ≡ i → IsSome (old_id q)
      by_id None e = absurd (false≢true (sym (ap is_some (index.nothing q e)) ∙ h))
      by_id (Some id) e = some_there e

  -- a path that stays is not new
  stays_old : (q : Path) (id : ℕ) → old_id q ≡ Some id → (Among q o.effect.taken → ⊥) → Among q o.fresh → ⊥
  stays_old q id e stays h = elim (shape.placed.fresh_free q h) [
    | inl none ↦ false≢true (sym (ap is_some none) ∙ old_there q id e)
    | inr taken ↦ stays taken
  ]

  pub data Source (q : Path) (id : ℕ) : Type 0 where
    drawn : Within (q, id) dr → Source q id
    stayed : old_id q ≡ Some id → (Among q o.effect.taken → ⊥) → Source q id

  source : (q : Path) (id : ℕ) → mid q ≡ Some id → Source q id
  source q id e = elim (in_tells q o.fresh) [
    | inl h ↦
        let z = zip_has o.fresh ids q as_many h in
        drawn (subst (λ i. Within (q, i) dr) (same_Some z.0 id (sym (mid_new q z.0 z.1) ∙ e)) z.1)
    | inr out ↦ by_taken (not_among q o.fresh out) (in_tells q o.effect.taken)
  ]
    where
      by_taken : (Among q o.fresh → ⊥) → Among q o.effect.taken ⊎ (is_in q o.effect.taken ≡ false) → Source q id
      by_taken other (inl taken) =
          absurd (none_some id (sym (mid_old q other ∙ ap (λ b. cond b None (old_id q)) (among_is_in q o.effect.taken taken)) ∙ e))
      by_taken other (inr out) =
          stayed (sym (mid_old q other ∙ ap (λ b. cond b None (old_id q)) out) ∙ e) (not_among q o.effect.taken out)

  -- ---- ids

  drawn_free : (q : Path) (id : ℕ) → Within (q, id) dr → inode_at parts id ≡ None
  drawn_free q id h = let place = (zip_is o.fresh ids (q, id) h).1 in free place.0 id place.1

  old_found : (q : Path) (id : ℕ) → old_id q ≡ Some id → is_some (inode_at parts id) ≡ true
  old_found q id e = stands.found q id e

  old_lacks : (q : Path) (id : ℕ) → old_id q ≡ Some id → Lacks id dr
  old_lacks q id e = lacks_all id dr (λ x h same. false≢true (sym (ap is_some (drawn_free x.0 x.1 h)) ∙ ap (λ i. is_some (inode_at parts i)) same ∙ old_found q id e))

  short : (q : Path) (id : ℕ) → old_id q ≡ Some id → id_at parts q ≡ Some id
  short q id e = short_id parts q (reached_short parts t stands q id e) ∙ e

  kn_once : HasIdsOnce kn
  kn_once = known_once parts (λ p q id a b. stands.once p q id (cut_follow parts p id a).1 (cut_follow parts q id b).1) o.written written_once

  dr_once : HasIdsOnce dr
  dr_once = zip_ids_once o.fresh ids ids_once

  part_of : (id : ℕ) → (part : Part) × (slice_get parts (id % 64) ≡ Some part)
  part_of id = elim (slice_get_cases parts (id % 64)).1 [
    | inl h ↦ (h.0, h.2)
    | inr h ↦ absurd (let long = stands.striped.long in let far = h.0 in let near : id % 64 < 64 = mod-lt id (lit< tt) in omega arith)
  ]

  inode-new : (id : ℕ) → inode_at new id ≡ turned_by number id (turns o.effect ls kn dr) (inode_at parts id)
  inode-new id = let part = part_of id in inode-after number id (turns o.effect ls kn dr) parts part.0 part.1

  -- ---- a path that stays

  -- a directory keeps the names that aren't said, and gets those that are
  abbrev leads : (q : Path) → List ℕ → Option ℕ
  leads q n = last_link ls (q ++ n ∷ []) (old_id (q ++ n ∷ []))

  move_unsaid : (q : Path) (n : List ℕ) (before : Option ℕ) (move : Option (Path × Path)) → IfSome move (WritesMove o.written) → (Among q o.written → ⊥)
      → last_link (move_links move kn) (q ++ n ∷ []) before ≡ before
  move_unsaid q n before None w other = refl
  move_unsaid q n before (Some m) w other =
      ap (λ b. last_link ((m.1, id_in m.0 kn) ∷ []) (q ++ n ∷ []) (cond b None before)) (path_differs (q ++ n ∷ []) m.0 (λ e. other (subst (λ p. Among p o.written) (sym (ap parent e) ∙ parent_of_child q n) w.out_of)))
      ∙ ap (λ b. cond b (id_in m.0 kn) before) (path_differs (q ++ n ∷ []) m.1 (λ e. other (subst (λ p. Among p o.written) (sym (ap parent e) ∙ parent_of_child q n) w.into)))

  -- below a path that isn't written nothing is said
  unsaid : (q : Path) (n : List ℕ) (before : Option ℕ) → (Among q o.written → ⊥) → last_link ls (q ++ n ∷ []) before ≡ before
  unsaid q n before other =
      said (q ++ n ∷ []) before
      ∙ ap (λ b. last_link mv (q ++ n ∷ []) (last_link (drawn_links dr) (q ++ n ∷ []) (cond b None before))) not_taken
      ∙ ap (last_link mv (q ++ n ∷ [])) (drawn_unsaid o.fresh ids (q ++ n ∷ []) before (λ h. other (up (shape.writes.above_fresh (q ++ n ∷ []) h))))
      ∙ move_unsaid q n before o.effect.move shape.writes.moved other
    where
      up : Among (parent (q ++ n ∷ [])) o.written → Among q o.written
      up h = subst (λ p. Among p o.written) (parent_of_child q n) h

      not_taken : is_in (q ++ n ∷ []) o.effect.taken ≡ false
      not_taken = elim (in_tells (q ++ n ∷ []) o.effect.taken) [ inl h ↦ absurd (other (up (shape.writes.above_taken (q ++ n ∷ []) h))) | inr out ↦ out ]

  -- a move says nothing of what is below a file
  move_none : (q : Path) (n : List ℕ) (move : Option (Path × Path)) → IfSome move (CanMove t o.fresh o.effect) → (IsKeptDirectory t o.effect q → ⊥)
      → last_link (move_links move kn) (q ++ n ∷ []) None ≡ None
  move_none q n None can no_directory = refl
  move_none q n (Some m) can no_directory =
      ap (λ b. cond b (id_in m.0 kn) (cond (eq_by_cmp path_cmp (q ++ n ∷ []) m.0) None None))
      (path_differs (q ++ n ∷ []) m.1 (λ e. no_directory (subst (λ p. IsKeptDirectory t o.effect p) (sym (ap parent e) ∙ parent_of_child q n) can.above)))
      ∙ either_none (eq_by_cmp path_cmp (q ++ n ∷ []) m.0)

  -- nothing new is below what is neither a directory that stays nor a new one
  no_new : (q : Path) (n : List ℕ) → (IsKeptDirectory t o.effect q → ⊥) → (IsNewDirectory o.effect q → ⊥) → Among (q ++ n ∷ []) o.fresh → ⊥
  no_new q n kept made h = elim (shape.growth.above (q ++ n ∷ []) h) [
    | inl k ↦ kept (subst (λ p. IsKeptDirectory t o.effect p) (parent_of_child q n) k)
    | inr k ↦ made (subst (λ p. IsNewDirectory o.effect p) (parent_of_child q n) k)
  ]

  file_is_no_directory : (q : Path) (x : Node) → at t q ≡ Some x → is_directory x ≡ false → IsKeptDirectory t o.effect q → ⊥
  file_is_no_directory q x e h kept = false≢true (sym h ∙ subst IsDirectory e kept.there)

  file_is_not_new : (q : Path) (x : Node) → at t q ≡ Some x → is_directory x ≡ false → (Among q o.effect.taken → ⊥) → IsNewDirectory o.effect q → ⊥
  file_is_not_new q x e h stays made =
      let same : is_directory made.put.node ≡ is_directory x = subst (λ (n : Option Node). KeepsKind n made.put) e (shape.growth.kinds q made.put made.found stays) in
      false≢true (sym h ∙ sym same ∙ made.directory)

  -- nothing is said below a file that stays
  file_leads : (q : Path) (id : ℕ) (x : BareInode) → old_id q ≡ Some id → inode_at parts id ≡ Some x → (Among q o.effect.taken → ⊥) → is_directory (node_of x) ≡ false
      → (n : List ℕ) → leads q n ≡ None
  file_leads q id x e found stays h n =
      let place = index.places q id e in
      let same : place.inode ≡ x = same_Some place.inode x (sym place.found ∙ found) in
      let none : old_id (q ++ n ∷ []) ≡ None = sym (place.links n) ∙ ap (λ (y : BareInode). child_of y n) same ∙ no_names x.content h n in
      let shows : at t q ≡ Some (node_of x) = place.shows ∙ ap (λ (y : BareInode). Some (node_of y)) same in
      said (q ++ n ∷ []) (old_id (q ++ n ∷ []))
      ∙ ap (λ i. last_link mv (q ++ n ∷ []) (last_link (drawn_links dr) (q ++ n ∷ []) (cond (is_in (q ++ n ∷ []) o.effect.taken) None i))) none
      ∙ ap (λ i. last_link mv (q ++ n ∷ []) (last_link (drawn_links dr) (q ++ n ∷ []) i)) (either_none (is_in (q ++ n ∷ []) o.effect.taken))
      ∙ ap (last_link mv (q ++ n ∷ [])) (drawn_unsaid o.fresh ids (q ++ n ∷ []) None (no_new q n (file_is_no_directory q (node_of x) shows h) (file_is_not_new q (node_of x) shows h stays)))
      ∙ move_none q n o.effect.move shape.growth.moved (file_is_no_directory q (node_of x) shows h)

  -- the node of a path that stays, and where its names lead
  old_seated : (q : Path) (id : ℕ) → old_id q ≡ Some id → (Among q o.effect.taken → ⊥) → Seated new id (put_or number (put_at q o.effect) (at t q)) (leads q)
  old_seated q id e stays_q = by_written (in_tells q o.written)
    where
      place : Places parts t (follow parts 0) q id
      place = index.places q id e

      links : (n : List ℕ) → child_of place.inode n ≡ old_id (q ++ n ∷ [])
      links n = place.links n

      not_taken : is_in q o.effect.taken ≡ false
      not_taken = elim (in_tells q o.effect.taken) [ inl h ↦ absurd (stays_q h) | inr out ↦ out ]

      unput : (Among q o.written → ⊥) → (found : Option Put) → put_at q o.effect ≡ found → put_or number found (at t q) ≡ at t q
      unput other None f = refl
      unput other (Some put) f = absurd (other (shape.writes.put_too q (put_found q o.effect.puts put f)))

      relinked_to : (f : Option Put) → put_at q o.effect ≡ f → inode_at new id ≡ Some (stays number q f ls place.inode) → Seated new id (put_or number f (at t q)) (leads q)
      relinked_to None f found = record {
        inode = stays number q None ls place.inode;
        found = found;
        kind = place.kind ∙ ap kind_of_content (sym (relinked_node q ls place.inode.content));
        shows = place.shows ∙ ap (λ c. Some (record (node_of place.inode) { content = c })) (sym (relinked_node q ls place.inode.content));
        names = λ n. elim (cases_Bool (is_directory (node_of place.inode))) [
          | inl dir ↦ relinked_names q ls place.inode.content n dir ∙ ap (last_link ls (q ++ n ∷ [])) (links n)
          | inr is_file ↦ relinked_file q ls place.inode.content n is_file ∙ sym (file_leads q id place.inode e place.found stays_q is_file n)
        ];
      }
      relinked_to (Some put) f found =
          let same : is_directory put.node ≡ is_directory (node_of place.inode) = subst (λ (x : Option Node). KeepsKind x put) place.shows (shape.growth.kinds q put f stays_q) in
          let kind : is_directory (put_by number put) ≡ is_directory (node_of place.inode) = kind_put number put ∙ same in
          record {
            inode = inode_with (put_by number put) (relinked q ls (links_in place.inode.content));
            found = found;
            kind = ap kind_of (sym (node-inode (put_by number put) (relinked q ls (links_in place.inode.content))));
            shows = ap Some (sym (node-inode (put_by number put) (relinked q ls (links_in place.inode.content))));
            names = λ n. elim (cases_Bool (is_directory (node_of place.inode))) [
              | inl dir ↦
                  names_with (put_by number put) (relinked q ls (links_in place.inode.content)) n (kind ∙ dir)
                  ∙ get-relinked q n ls (links_in place.inode.content) ∙ ap (last_link ls (q ++ n ∷ [])) (links n)
              | inr is_file ↦
                  no_names (content_with (put_by number put).content (relinked q ls (links_in place.inode.content))) (content_kind (put_by number put) (relinked q ls (links_in place.inode.content)) ∙ kind ∙ is_file) n
                  ∙ sym (file_leads q id place.inode e place.found stays_q is_file n)
            ];
          }

      by_written : Among q o.written ⊎ (is_in q o.written ≡ false) → Seated new id (put_or number (put_at q o.effect) (at t q)) (leads q)
      by_written (inl h) =
          relinked_to (put_at q o.effect) refl
          (inode-new id
          ∙ turned_known number o.effect ls kn dr (q, id) (inode_at parts id) kn_once (known_has parts o.written q id h (short q id e)) (old_lacks q id e)
          ∙ ap (λ b. turned number (cond b (gone id) (stays_at id q (find path_cmp q o.effect.puts) ls)) (inode_at parts id)) not_taken
          ∙ ap (turned number (stays_at id q (find path_cmp q o.effect.puts) ls)) place.found)
      by_written (inr out) =
          let other = not_among q o.written out in
          record {
            inode = place.inode;
            found = inode-new id
                ∙ left_alone number o.effect ls id kn dr (inode_at parts id)
                (lacks_all id kn (λ x h same.
                let is = known_is parts o.written x h in
                other (subst (λ p. Among p o.written) (stands.once x.0 q id ((cut_follow parts x.0 x.1 is.1).1 ∙ ap Some same) e) is.0)))
                (old_lacks q id e)
                ∙ place.found;
            kind = place.kind;
            shows = unput other (put_at q o.effect) refl ∙ place.shows;
            names = λ n. links n ∙ sym (unsaid q n (old_id (q ++ n ∷ [])) other);
          }

  -- ---- a new path

  new_put : (q : Path) (id : ℕ) → Within (q, id) dr → (put : Put) × (put_at q o.effect ≡ Some put)
  new_put q id h = found_put q o.effect.puts (shape.placed.fresh_put q (zip_is o.fresh ids (q, id) h).0)

  -- what was below a new path went
  below_new : (q : Path) (n : List ℕ) → Among q o.fresh → cond (is_in (q ++ n ∷ []) o.effect.taken) None (old_id (q ++ n ∷ [])) ≡ None
  below_new q n h = by_id (old_id (q ++ n ∷ [])) refl
    where
      by_id : (i : Option ℕ) → old_id (q ++ n ∷ []) ≡ i → cond (is_in (q ++ n ∷ []) o.effect.taken) None i ≡ None
      by_id None e = either_none (is_in (q ++ n ∷ []) o.effect.taken)
      by_id (Some id) e = elim (shape.placed.fresh_free q h) [
        | inl none ↦ absurd (none_some id (sym (index.below_nothing q n (no_id none)) ∙ e))
        | inr taken ↦ ap (λ b. cond b None (Some id)) (among_is_in (q ++ n ∷ []) o.effect.taken (shape.placed.taken_below q (n ∷ []) taken (old_there (q ++ n ∷ []) id e)))
      ]
        where
          no_id : at t q ≡ None → old_id q ≡ None
          no_id none = by_old (old_id q) refl
            where
              by_old : (i : Option ℕ) → old_id q ≡ i → old_id q ≡ None
              by_old None k = k
              by_old (Some j) k = absurd (false≢true (sym (ap is_some none) ∙ old_there q j k))

  -- where something is new nothing moves
  no_move : (q : Path) → Among q o.fresh → (p : Path) (before : Option ℕ) → last_link mv p before ≡ before
  no_move q h p before = by_move o.effect.move shape.growth.moved
    where
      by_move : (move : Option (Path × Path)) → IfSome move (CanMove t o.fresh o.effect) → last_link (move_links move kn) p before ≡ before
      by_move None can = refl
      by_move (Some m) can = absurd (subst (λ l. Among q l) can.nothing_new h)

  new_leads : (q : Path) (n : List ℕ) → Among q o.fresh → last_link ls (q ++ n ∷ []) None ≡ last_link mv (q ++ n ∷ []) (mid (q ++ n ∷ []))
  new_leads q n h =
      said (q ++ n ∷ []) None
      ∙ ap (λ i. last_link mv (q ++ n ∷ []) (last_link (drawn_links dr) (q ++ n ∷ []) i)) (either_none (is_in (q ++ n ∷ []) o.effect.taken) ∙ sym (below_new q n h))

  new_file_leads : (q : Path) (n : List ℕ) (put : Put) → Among q o.fresh → put_at q o.effect ≡ Some put → is_directory put.node ≡ false → last_link mv (q ++ n ∷ []) (mid (q ++ n ∷ [])) ≡ None
  new_file_leads q n put h found is_file =
      no_move q h (q ++ n ∷ []) (mid (q ++ n ∷ []))
      ∙ mid_old (q ++ n ∷ []) (no_new q n kept made)
      ∙ below_new q n h
    where
      kept : IsKeptDirectory t o.effect q → ⊥
      kept k = elim (shape.placed.fresh_free q h) [
        | inl none ↦ subst IsDirectory none k.there
        | inr taken ↦ k.stays taken
      ]

      made : IsNewDirectory o.effect q → ⊥
      made k = false≢true (sym is_file ∙ ap (λ (p : Put). is_directory p.node) (same_Some put k.put (sym found ∙ k.found)) ∙ k.directory)

  new_seated : (q : Path) (id : ℕ) → Within (q, id) dr → Seated new id (put_or number (put_at q o.effect) (cond (is_in q o.effect.taken) None (at t q))) (λ n. last_link mv (q ++ n ∷ []) (mid (q ++ n ∷ [])))
  new_seated q id h =
      let put = new_put q id h in
      let fresh = (zip_is o.fresh ids (q, id) h).0 in
      let x : Node = put_by number put.0 in
      let links : Links = relinked q ls fin.empty in
      record {
        inode = inode_with x links;
        found = inode-new id ∙ turned_drawn number o.effect ls kn dr (q, id) put.0 (inode_at parts id) dr_once h put.1;
        kind = ap kind_of (sym (node-inode x links));
        shows = ap (λ f. put_or number f (cond (is_in q o.effect.taken) None (at t q))) put.1 ∙ ap Some (sym (node-inode x links));
        names = λ n. elim (cases_Bool (is_directory put.0.node)) [
          | inl dir ↦
              names_with x links n (kind_put number put.0 ∙ dir) ∙ get-relinked q n ls fin.empty
              ∙ ap (last_link ls (q ++ n ∷ [])) (fin.get-empty name_cmp n) ∙ new_leads q n fresh
          | inr is_file ↦
              no_names (content_with x.content links) (content_kind x links ∙ kind_put number put.0 ∙ is_file) n
              ∙ sym (new_file_leads q n put.0 fresh put.1 is_file)
        ];
      }

  -- ---- all paths

  module _ (is : IsTree t) where
    abbrev tree : Tree
    tree = middle t is number o shape

    mid_seated : (q : Path) (id : ℕ) → Source q id → Seated new id (at tree q) (λ n. last_link mv (q ++ n ∷ []) (mid (q ++ n ∷ [])))
    mid_seated q id (drawn h) =
        subst (λ x. Seated new id x (λ n. last_link mv (q ++ n ∷ []) (mid (q ++ n ∷ [])))) (sym (at-middle t is number o shape q)) (new_seated q id h)
    mid_seated q id (stayed e stays) =
        let out : is_in q o.effect.taken ≡ false = elim (in_tells q o.effect.taken) [ inl h ↦ absurd (stays h) | inr out ↦ out ] in
        let seat = old_seated q id e stays in
        record {
          inode = seat.inode;
          found = seat.found;
          kind = seat.kind;
          shows = at-middle t is number o shape q ∙ ap (λ b. put_or number (put_at q o.effect) (cond b None (at t q))) out ∙ seat.shows;
          names = λ n. seat.names n ∙ said (q ++ n ∷ []) (old_id (q ++ n ∷ []));
        }

    mid_nothing : (q : Path) → mid q ≡ None → at tree q ≡ None
    mid_nothing q e = elim (in_tells q o.fresh) [
      | inl h ↦ let z = zip_has o.fresh ids q as_many h in absurd (none_some z.0 (sym e ∙ mid_new q z.0 z.1))
      | inr out ↦ at-middle t is number o shape q ∙ by_put (not_among q o.fresh out) (gone_or_none (not_among q o.fresh out)) (put_at q o.effect) refl
    ]
      where
        gone_or_none : (Among q o.fresh → ⊥) → cond (is_in q o.effect.taken) None (at t q) ≡ None
        gone_or_none other = elim (in_tells q o.effect.taken) [
          | inl h ↦ ap (λ b. cond b None (at t q)) (among_is_in q o.effect.taken h)
          | inr out ↦ ap (λ b. cond b None (at t q)) out ∙ index.nothing q (sym (mid_old q other ∙ ap (λ b. cond b None (old_id q)) out) ∙ e)
        ]

        by_put : (Among q o.fresh → ⊥) → cond (is_in q o.effect.taken) None (at t q) ≡ None → (found : Option Put) → put_at q o.effect ≡ found
            → put_or number found (cond (is_in q o.effect.taken) None (at t q)) ≡ None
        by_put other none None f = none
        by_put other none (Some put) f = elim (shape.placed.put q (put_found q o.effect.puts put f)) [
          | inl h ↦ absurd (false≢true (sym (ap is_some (sym (ap (λ b. cond b None (at t q)) (out h.1)) ∙ none)) ∙ h.0))
          | inr fresh ↦ absurd (other fresh)
        ]
          where
            out : (Among q o.effect.taken → ⊥) → is_in q o.effect.taken ≡ false
            out stays = elim (in_tells q o.effect.taken) [ inl k ↦ absurd (stays k) | inr k ↦ k ]

    mid_once : (p q : Path) (id : ℕ) → Source p id → Source q id → p ≡ q
    mid_once p q id (drawn a) (drawn b) = ap (λ (x : Path × ℕ). x.0) (same_pair dr dr_once (p, id) (q, id) a b refl)
    mid_once p q id (stayed a s) (stayed b u) = stands.once p q id a b
    mid_once p q id (drawn a) (stayed b u) = absurd (false≢true (sym (ap is_some (drawn_free p id a)) ∙ old_found q id b))
    mid_once p q id (stayed a s) (drawn b) = absurd (false≢true (sym (ap is_some (drawn_free q id b)) ∙ old_found p id a))

    mid_kept : (id : ℕ) → IsSome (inode_at new id) → (p : Path) × (mid p ≡ Some id)
    mid_kept id h = elim (id_tells id dr) [
      | inl x ↦ (x.0.0, mid_new x.0.0 x.0.1 x.1 ∙ ap Some x.2)
      | inr lacks ↦ by_old lacks (inode_at parts id) refl
    ]
      where
        by_old : Lacks id dr → (i : Option BareInode) → inode_at parts id ≡ i → (p : Path) × (mid p ≡ Some id)
        by_old lacks None e = absurd (false≢true (sym (ap is_some (inode-new id ∙ left_alone number o.effect ls id kn dr (inode_at parts id)
            (lacks_all id kn (λ x k same.
            let is = known_is parts o.written x k in
            false≢true (sym (ap is_some e) ∙ ap (λ i. is_some (inode_at parts i)) (sym same) ∙ old_found x.0 x.1 (cut_follow parts x.0 x.1 is.1).1))) lacks ∙ e)) ∙ h))
        by_old lacks (Some x) e =
            let reached = index.kept id (some_there e) in
            elim (in_tells reached.0 o.effect.taken) [
              | inl taken ↦ absurd (false≢true (sym (ap is_some (inode-new id
                  ∙ turned_known number o.effect ls kn dr (reached.0, id) (inode_at parts id) kn_once (known_has parts o.written reached.0 id (shape.writes.taken_too reached.0 taken) (short reached.0 id reached.1)) lacks
                  ∙ ap (λ b. turned number (cond b (gone id) (stays_at id reached.0 (find path_cmp reached.0 o.effect.puts) ls)) (inode_at parts id)) (among_is_in reached.0 o.effect.taken taken))) ∙ h))
              | inr out ↦ (
                reached.0,
                mid_old reached.0 (stays_old reached.0 id reached.1 (not_among reached.0 o.effect.taken out)) ∙ ap (λ b. cond b None (old_id reached.0)) out ∙ reached.1,
              )
            ]

    mid_account : mid [] ≡ Some 0
    mid_account = mid_old [] shape.growth.account_old ∙ elim (in_tells [] o.effect.taken) [
      | inl h ↦ absurd (shape.growth.account_stays h)
      | inr out ↦ ap (λ b. cond b None (Some 0)) out
    ]

    -- the parts after have an index for the tree before the move, but for what the move says
    pub is_middle : IsMiddle new tree mid mv
    is_middle = record {
      account = mid_account;
      places = λ p id e. mid_seated p id (source p id e);
      nothing = mid_nothing;
      once = λ p q id e f. mid_once p q id (source p id e) (source q id f);
      kept = mid_kept;
    }

    -- a path that stays keeps its id
    pub mid_stays : (q : Path) (id : ℕ) → old_id q ≡ Some id → (Among q o.effect.taken → ⊥) → mid q ≡ Some id
    mid_stays q id e stays =
        mid_old q (stays_old q id e stays) ∙ elim (in_tells q o.effect.taken) [
          | inl h ↦ absurd (stays h)
          | inr out ↦ ap (λ b. cond b None (old_id q)) out ∙ e
        ]

    -- the source of a move keeps its id, which the destination gets
    pub mid_source : (m : Path × Path) → CanMove t o.fresh o.effect m → WritesMove o.written m → (id : ℕ) × (id_in m.0 kn ≡ Some id) × (mid m.0 ≡ Some id)
    mid_source m can w =
        let id = there (old_id m.0) (there_old m.0 can.there) in (
          id.0,
          find_known parts o.written m.0 ∙ ap (λ b. cond b (id_at parts m.0) None) (among_is_in m.0 o.written w.source) ∙ short m.0 id.0 id.1,
          mid_stays m.0 id.0 id.1 can.stays,
        )
