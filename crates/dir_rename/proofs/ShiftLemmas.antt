-- The draft by which a node moves is that of its step.
use Rattle.std.proofs.Common.{◌≡◌, inl, inr, ℕ, ◌+◌, ◌==◌, Bool, true, false, cond, ◌||◌, ◌&&◌, List, [], ◌∷◌, ◌++◌, map, length, Option, Some, None, option_map, unwrap_or, refl, ap, sym, subst, ◌∙◌, append-nil, arith}
use Rattle.std.proofs.lemmas.Bool.{false≢true}
use Rattle.std.proofs.lemmas.Option.{same_Some}
use Rattle.std.specs.Cmp.{unsigned_Decides}
use Rattle.std.specs.Cmp.Lexicographic.{nat_list_cmp_total}
use Rattle.std.specs.FinMap as fin
use Rattle.std.specs.FinMap.{find}
use Rattle.std.specs.Ordering.{eq_by_cmp}
use Rattle.path_text.specs.Paths.{path_cmp, is_prefix}
use Rattle.namespace_model.specs.declared.request.Entry.{Entry}
use Rattle.namespace_model.specs.declared.request.Request.{Request}
use Rattle.namespace_model.specs.Effects.{Effect, Put, put_by, stamp}
use Rattle.namespace_model.specs.Locality.{Among}
use Rattle.namespace_model.specs.Outcomes.{Outcome, once, reading, without_repeats}
use Rattle.namespace_model.specs.Rename.{Moving, shifted}
use Rattle.namespace_model.specs.Replies.{success, stamp_fields}
use Rattle.namespace_model.specs.Sound.{IsSound}
use Rattle.namespace_model.specs.Step.{outcome, with_close, closing}
use Rattle.namespace_model.specs.Trees.{Path, Tree, parent}
use Rattle.namespace_model.proofs.Effected.{is_in, among_is_in, same_behind}
use Rattle.namespace_model.proofs.Lookups.{path_tells, same_path}
use Rattle.namespace_model.proofs.Prefixes.{front_of_append, front_of_itself, length_append, parent_of_child}
use Rattle.namespace_model.proofs.StepLocality.{among_once}
use Rattle.inode_tree.specs.declared.change.Change.{Change}
use Rattle.inode_tree.specs.declared.change.Change.TheVariants as change
use Rattle.inode_tree.specs.declared.change.Edit.TheVariants as edit
use Rattle.inode_tree.specs.declared.draft.Draft.{Draft}
use Rattle.inode_tree.specs.declared.fresh.Fresh.{Fresh}
use Rattle.inode_tree.specs.declared.id.NodeId.{NodeId}
use Rattle.inode_tree.specs.declared.need.Need.{Need}
use Rattle.inode_tree.specs.declared.placed.Placed.{Placed}
use Rattle.inode_tree.specs.After.{Relink, relinks, Turn, stays_at, turns, turns_by, turns_on, turned, stays, relinked, relinked_in, inode_with, meta_of, with_id, known, id_in, move_links, drawn_ids, outcome_on}
use Rattle.inode_tree.specs.After as turn
use Rattle.inode_tree.specs.Changes.{node_after}
use Rattle.inode_tree.specs.ChildLists.{name_cmp}
use Rattle.inode_tree.specs.Drawing.{next_ids}
use Rattle.inode_tree.specs.Footprints.{ids_of, written_ids}
use Rattle.inode_tree.specs.Inodes.{Links, BareContent, directory, file, BareInode, links_in, node_of}
use Rattle.inode_tree.specs.Parts.{Parts, inode_at, follow, id_at}
use Rattle.inode_tree.specs.Promises.{IsEntryOf, numbers_of, is_one_of, IsOfStep, IsDraft, IsNeed}
use Rattle.inode_tree.specs.Stands.{Stands}
use Rattle.inode_tree.specs.Views.{Held, Shown, ArePossible}
use Rattle.inode_tree.proofs.FrameLemmas.{short_id}
use Rattle.inode_tree.proofs.IndexLemmas.{reached_short, cut_follow}
use Rattle.inode_tree.proofs.LinkLemmas.{last_link, last-append, last-taken, get-relinked, key_tells, key_same, path_differs}
use Rattle.inode_tree.proofs.MapLemmas.{name_cmp-IsAntisymmetric}
use Rattle.inode_tree.proofs.PairLemmas.{once_is_once, known_has, known_is, known_once, find_known}
use Rattle.inode_tree.proofs.PromiseLemmas.{of_step, outcome_there, changed_by}
use Rattle.inode_tree.proofs.TurnLemmas.{turned_by, Within, HasIdsOnce, lacks_all, turned_known, left_alone, number_same, number_differs}
use Rattle.path_walk.specs.Holds.{AreHeldToWrite, LacksStripe}
use Rattle.path_walk.specs.Visits.{AreLookedAt}
use Rattle.path_walk.proofs.EditLemmas.{meta_leaves}
use Rattle.path_walk.proofs.HoldLemmas.{written_need}
use Rattle.path_walk.proofs.SetLemmas.{ids_once, once_among}
use Rattle.dir_rename.specs.declared.shift.Shift.{Shift}
use Rattle.dir_rename.specs.Shifts.{replaced_at, IsShiftIn, IsShift, dropped, shifts, with_old, to_write, IsShifted}

-- ---- names

-- the paths of two names in two directories are one where both are
pub name_link : (p q : Path) (n m : List ℕ) → eq_by_cmp path_cmp (p ++ n ∷ []) (q ++ m ∷ []) ≡ (eq_by_cmp path_cmp p q && eq_by_cmp name_cmp n m)
name_link p q n m = elim (path_tells p q) [
  | inl e ↦ elim (key_tells name_cmp nat_list_cmp_total name_cmp-IsAntisymmetric n m) [
    | inl f ↦
        ap (λ r. eq_by_cmp path_cmp r (q ++ m ∷ [])) (ap (λ r. r ++ n ∷ []) e ∙ ap (λ k. q ++ k ∷ []) f) ∙ same_path (q ++ m ∷ [])
        ∙ sym (ap (λ b. b && eq_by_cmp name_cmp n m) (ap (λ r. eq_by_cmp path_cmp r q) e ∙ same_path q)
        ∙ ap (λ k. eq_by_cmp name_cmp k m) f ∙ key_same name_cmp nat_list_cmp_total name_cmp-IsAntisymmetric m)
    | inr other ↦
        path_differs (p ++ n ∷ []) (q ++ m ∷ []) (λ same. false≢true (sym other ∙ ap (λ k. eq_by_cmp name_cmp k m) (names_same same e) ∙ key_same name_cmp nat_list_cmp_total name_cmp-IsAntisymmetric m))
        ∙ sym (ap (λ b. b && eq_by_cmp name_cmp n m) (ap (λ r. eq_by_cmp path_cmp r q) e ∙ same_path q) ∙ other)
  ]
  | inr other ↦
      path_differs (p ++ n ∷ []) (q ++ m ∷ []) (λ same. false≢true (sym other ∙ ap (λ r. eq_by_cmp path_cmp r q) (sym (parent_of_child p n) ∙ ap parent same ∙ parent_of_child q m) ∙ same_path q))
      ∙ sym (ap (λ b. b && eq_by_cmp name_cmp n m) other)
]
  where
    head_is : Path → List ℕ
    head_is [] = n
    head_is (k ∷ ks) = k

    names_same : p ++ n ∷ [] ≡ q ++ m ∷ [] → p ≡ q → n ≡ m
    names_same same e = ap head_is (same_behind q (n ∷ []) (m ∷ []) (ap (λ r. r ++ n ∷ []) (sym e) ∙ same))

-- ---- links

abbrev link_if : Bool → List ℕ → ℕ → Links → Links
link_if b name id links = cond b (fin.insert links name id) links

abbrev unlink_if : Bool → List ℕ → Links → Links
unlink_if b name links = cond b (fin.remove links name) links

get-link_if : (b : Bool) (name : List ℕ) (id : ℕ) (links : Links) (n : List ℕ) → fin.get (link_if b name id links) n ≡ cond (b && eq_by_cmp name_cmp n name) (Some id) (fin.get links n)
get-link_if true name id links n = fin.get-insert nat_list_cmp_total links name id n
get-link_if false name id links n = refl

get-unlink_if : (b : Bool) (name : List ℕ) (links : Links) (n : List ℕ) → fin.get (unlink_if b name links) n ≡ cond (b && eq_by_cmp name_cmp n name) None (fin.get links n)
get-unlink_if true name links n = fin.get-remove nat_list_cmp_total links name n
get-unlink_if false name links n = refl

-- ---- the written paths of a rename

module _ (parts : Parts) (t : Tree) (stands : Stands parts t) (m : Moving) (moment : ℕ) (s : Shift) (node : BareInode)
    (source_named : m.source ≡ parent m.source ++ s.name ∷ []) (path_named : m.path ≡ parent m.path ++ s.new_name ∷ []) (apart : is_prefix m.source m.path ≡ false)
    (moves_out_of : follow parts 0 (parent m.source) ≡ Some s.from.0) (moves_into : follow parts 0 (parent m.path) ≡ Some s.to.0)
    (leads : follow parts 0 m.source ≡ Some s.id.0) (there : inode_at parts s.id.0 ≡ Some node)
    (meta_is : s.meta ≡ record node.meta { props = unwrap_or m.props node.meta.props; moment = moment })
    (replaces : follow parts 0 m.path ≡ option_map (λ (id : NodeId). id.0) s.old) where
  abbrev out : Path
  out = parent m.source

  abbrev into : Path
  into = parent m.path

  abbrev all : List Path
  all = out ∷ into ∷ m.source ∷ replaced_at m.path s.old

  abbrev kn : List (Path × ℕ)
  kn = known parts (once (out ∷ into ∷ m.source ∷ replaced_at m.path s.old))

  abbrev put : Put
  put = stamp moment (record (node_of node) { props = unwrap_or m.props (node_of node).props })

  abbrev effect : Effect
  effect = record { taken = replaced_at m.path s.old; puts = (m.source, put) ∷ []; move = Some (m.source, m.path) }

  abbrev ls : List Relink
  ls = relinks effect kn []

  id_of_path : (p : Path) (id : ℕ) → follow parts 0 p ≡ Some id → id_at parts p ≡ Some id
  id_of_path p id e = short_id parts p (reached_short parts t stands p id e) ∙ e

  one_path : (p q : Path) (id : ℕ) → id_at parts p ≡ Some id → id_at parts q ≡ Some id → p ≡ q
  one_path p q id e f = stands.once p q id (cut_follow parts p id e).1 (cut_follow parts q id f).1

  -- two written paths are one where their ids are
  same_ids : (p q : Path) (i j : ℕ) → id_at parts p ≡ Some i → id_at parts q ≡ Some j → eq_by_cmp path_cmp p q ≡ (j == i)
  same_ids p q i j e f = elim (path_tells p q) [
    | inl same ↦ ap (λ r. eq_by_cmp path_cmp r q) same ∙ same_path q ∙ sym (ap (λ k. j == k) (same_Some i j (sym e ∙ ap (id_at parts) same ∙ f)) ∙ number_same j)
    | inr other ↦ other ∙ sym (number_differs j i (λ same. false≢true (sym other ∙ ap (λ r. eq_by_cmp path_cmp r q) (one_path p q i e (f ∙ ap Some same)) ∙ same_path q)))
  ]

  out_id : id_at parts out ≡ Some s.from.0
  out_id = id_of_path out s.from.0 moves_out_of

  into_id : id_at parts into ≡ Some s.to.0
  into_id = id_of_path into s.to.0 moves_into

  source_id : id_at parts m.source ≡ Some s.id.0
  source_id = id_of_path m.source s.id.0 leads

  old_id : (id : NodeId) → s.old ≡ Some id → id_at parts m.path ≡ Some id.0
  old_id id e = id_of_path m.path id.0 (replaces ∙ ap (option_map (λ (i : NodeId). i.0)) e)

  -- ---- paths that are not one

  source_not_path : eq_by_cmp path_cmp m.source m.path ≡ false
  source_not_path = path_differs m.source m.path (λ e. false≢true (sym apart ∙ ap (λ p. is_prefix m.source p) (sym e) ∙ front_of_itself m.source))

  source_not_out : eq_by_cmp path_cmp m.source out ≡ false
  source_not_out = path_differs m.source out (λ e.
      let long : length m.source ≡ length out + 1 = ap (λ (l : Path). length l) source_named ∙ length_append out (s.name ∷ []) in
      let same : length m.source ≡ length out = ap (λ (l : Path). length l) e in
      absurd (omega arith))

  source_not_into : eq_by_cmp path_cmp m.source into ≡ false
  source_not_into = path_differs m.source into (λ e. false≢true (sym apart ∙ ap (λ p. is_prefix m.source p) (path_named ∙ ap (λ p. p ++ s.new_name ∷ []) (sym e)) ∙ front_of_append m.source (s.new_name ∷ [])))

  out_not_source : eq_by_cmp path_cmp out m.source ≡ false
  out_not_source = path_differs out m.source (λ e. false≢true (sym source_not_out ∙ ap (λ p. eq_by_cmp path_cmp m.source p) e ∙ same_path m.source))

  into_not_source : eq_by_cmp path_cmp into m.source ≡ false
  into_not_source = path_differs into m.source (λ e. false≢true (sym source_not_into ∙ ap (λ p. eq_by_cmp path_cmp m.source p) e ∙ same_path m.source))

  source_stays : is_in m.source (replaced_at m.path s.old) ≡ false
  source_stays = by_old s.old
    where
      by_old : (o : Option NodeId) → is_in m.source (replaced_at m.path o) ≡ false
      by_old None = refl
      by_old (Some id) = ap (λ b. b || false) source_not_path

  -- ---- what is said of links

  moved_id : id_in m.source kn ≡ Some s.id.0
  moved_id =
      find_known parts (once all) m.source
      ∙ ap (λ b. cond b (id_at parts m.source) None) (among_is_in m.source (once all) (among_once m.source all (inr (inr (inl refl)))))
      ∙ source_id

  links_are : (q : Path) (before : Option ℕ) → last_link ls q before ≡ cond (eq_by_cmp path_cmp q m.path) (Some s.id.0) (cond (eq_by_cmp path_cmp q m.source) None before)
  links_are q before =
      ap (λ (l : List Relink). last_link (l ++ move_links (Some (m.source, m.path)) kn) q before) (append-nil (map (λ (p : Path). (p, None)) (replaced_at m.path s.old)))
      ∙ last-append (map (λ (p : Path). (p, None)) (replaced_at m.path s.old)) (move_links (Some (m.source, m.path)) kn) q before
      ∙ ap (λ o. cond (eq_by_cmp path_cmp q m.path) (id_in m.source kn) (cond (eq_by_cmp path_cmp q m.source) None o)) (last-taken (replaced_at m.path s.old) q before)
      ∙ ap (λ o. cond (eq_by_cmp path_cmp q m.path) o (cond (eq_by_cmp path_cmp q m.source) None (cond (is_in q (replaced_at m.path s.old)) None before))) moved_id
      ∙ by_old s.old (eq_by_cmp path_cmp q m.path) refl
    where
      by_old : (o : Option NodeId) (b : Bool) → eq_by_cmp path_cmp q m.path ≡ b
          → cond b (Some s.id.0) (cond (eq_by_cmp path_cmp q m.source) None (cond (is_in q (replaced_at m.path o)) None before)) ≡ cond b (Some s.id.0) (cond (eq_by_cmp path_cmp q m.source) None before)
      by_old None b e = refl
      by_old (Some id) true e = refl
      by_old (Some id) false e = ap (λ c. cond (eq_by_cmp path_cmp q m.source) None (cond (c || false) None before)) e

  -- the links of the directory at p afterwards
  links_after : (p : Path) (links : Links) → relinked p ls links ≡ link_if (eq_by_cmp path_cmp p into) s.new_name s.id.0 (unlink_if (eq_by_cmp path_cmp p out) s.name links)
  links_after p links = fin.same_map nat_list_cmp_total name_cmp-IsAntisymmetric (relinked p ls links) (link_if (eq_by_cmp path_cmp p into) s.new_name s.id.0 (unlink_if (eq_by_cmp path_cmp p out) s.name links)) (λ n.
      get-relinked p n ls links ∙ links_are (p ++ n ∷ []) (fin.get links n)
      ∙ ap (λ b. cond b (Some s.id.0) (cond (eq_by_cmp path_cmp (p ++ n ∷ []) m.source) None (fin.get links n))) (ap (λ q. eq_by_cmp path_cmp (p ++ n ∷ []) q) path_named ∙ name_link p into n s.new_name)
      ∙ ap (λ b. cond (eq_by_cmp path_cmp p into && eq_by_cmp name_cmp n s.new_name) (Some s.id.0) (cond b None (fin.get links n))) (ap (λ q. eq_by_cmp path_cmp (p ++ n ∷ []) q) source_named ∙ name_link p out n s.name)
      ∙ sym (get-link_if (eq_by_cmp path_cmp p into) s.new_name s.id.0 (unlink_if (eq_by_cmp path_cmp p out) s.name links) n
      ∙ ap (cond (eq_by_cmp path_cmp p into && eq_by_cmp name_cmp n s.new_name) (Some s.id.0)) (get-unlink_if (eq_by_cmp path_cmp p out) s.name links n)))

  -- ---- what the turns leave

  abbrev the_turns : List Turn
  the_turns = turns effect ls kn []

  ids_apart : HasIdsOnce kn
  ids_apart = known_once parts one_path (once all) (once_is_once all)

  is_known : (p : Path) (id : ℕ) → Among p all → id_at parts p ≡ Some id → Within (p, id) kn
  is_known p id h e = known_has parts (once all) p id (among_once p all h) e

  -- a path that stays has its put and its links
  turn_is : (number : ℕ) (p : Path) (id : ℕ) (before : Option BareInode) → Among p all → id_at parts p ≡ Some id → is_in p (replaced_at m.path s.old) ≡ false
      → turned_by number id the_turns before ≡ option_map (stays number p (find path_cmp p effect.puts) ls) before
  turn_is number p id before h e stays_there =
      turned_known number effect ls kn [] (p, id) before ids_apart (is_known p id h e) tt
      ∙ ap (λ b. turned number (cond b (turn.gone id) (stays_at id p (find path_cmp p effect.puts) ls)) before) stays_there

  -- a directory that isn't the source
  directory_turn : (number : ℕ) (p : Path) (id : ℕ) (before : Option BareInode) → Among p all → id_at parts p ≡ Some id → is_in p (replaced_at m.path s.old) ≡ false → eq_by_cmp path_cmp p m.source ≡ false
      → turned_by number id the_turns before ≡ option_map (stays number p None ls) before
  directory_turn number p id before h e stays_there other =
      turn_is number p id before h e stays_there ∙ ap (λ b. option_map (stays number p (cond b (Some put) None) ls) before) other

  old_turn : (number : ℕ) (id : NodeId) (before : Option BareInode) → s.old ≡ Some id → turned_by number id.0 the_turns before ≡ None
  old_turn number id before e =
      turned_known number effect ls kn [] (m.path, id.0) before ids_apart (is_known m.path id.0 (inr (inr (inr (replaced_has (inl refl))))) (old_id id e)) tt
      ∙ ap (λ b. turned number (cond b (turn.gone id.0) (stays_at id.0 m.path (find path_cmp m.path effect.puts) ls)) before) (among_is_in m.path (replaced_at m.path s.old) (replaced_has (inl refl)))
    where
      replaced_has : Among m.path (m.path ∷ []) → Among m.path (replaced_at m.path s.old)
      replaced_has h = subst (λ (o : Option NodeId). Among m.path (replaced_at m.path o)) (sym e) h

  source_turn : (number : ℕ) (before : Option BareInode) → turned_by number s.id.0 the_turns before ≡ option_map (stays number m.source (Some put) ls) before
  source_turn number before =
      turn_is number m.source s.id.0 before (inr (inr (inl refl))) source_id source_stays
      ∙ ap (λ b. option_map (stays number m.source (cond b (Some put) None) ls) before) (same_path m.source)

  -- the node itself: nothing is said of what is below it
  source_after : (number : ℕ) → option_map (stays number m.source (Some put) ls) (inode_at parts s.id.0) ≡ node_after number (change.Edit s.id (edit.Meta s.meta true)) (inode_at parts s.id.0)
  source_after number =
      ap (option_map (stays number m.source (Some put) ls)) there
      ∙ ap (λ (l : Links). Some (inode_with (put_by number put) l)) (links_after m.source (links_in node.content)
      ∙ ap (λ b. link_if b s.new_name s.id.0 (unlink_if (eq_by_cmp path_cmp m.source out) s.name (links_in node.content))) source_not_into
      ∙ ap (λ b. unlink_if b s.name (links_in node.content)) source_not_out)
      ∙ ap Some (sym (meta_leaves node s.meta put meta_is refl (stands.kinds s.id.0 node there) number))
      ∙ sym (ap (node_after number (change.Edit s.id (edit.Meta s.meta true))) there)

  -- ---- what the changes leave

  abbrev unlink_at : ℕ → ℕ → Option BareInode → Option BareInode
  unlink_at number id before = cond (s.from.0 == id) (node_after number (change.Unlink s.from s.name) before) before

  abbrev link_at : ℕ → ℕ → Option BareInode → Option BareInode
  link_at number id before = cond (s.to.0 == id) (node_after number (change.Link s.to s.new_name s.id) before) before

  abbrev edit_at : ℕ → ℕ → Option BareInode → Option BareInode
  edit_at number id before = cond (s.id.0 == id) (node_after number (change.Edit s.id (edit.Meta s.meta true)) before) before

  abbrev is_old : ℕ → Bool
  is_old id = is_one_of id (numbers_of (with_old s.old))

  changes_leave : (number id : ℕ) (before : Option BareInode) → changed_by number id (shifts s) before ≡ edit_at number id (link_at number id (unlink_at number id (cond (is_old id) None before)))
  changes_leave number id before = by_old s.old
    where
      moves : List Change
      moves = change.Unlink s.from s.name ∷ change.Link s.to s.new_name s.id ∷ change.Edit s.id (edit.Meta s.meta true) ∷ []

      by_test : (a : Bool) → edit_at number id (link_at number id (unlink_at number id (cond a None before))) ≡ edit_at number id (link_at number id (unlink_at number id (cond (a || false) None before)))
      by_test true = refl
      by_test false = refl

      by_old : (o : Option NodeId) → changed_by number id (dropped o ++ moves) before ≡ edit_at number id (link_at number id (unlink_at number id (cond (is_one_of id (numbers_of (with_old o))) None before)))
      by_old None = refl
      by_old (Some old) = by_test (old.0 == id)

  -- what goes stays away
  gone_stays : (number id : ℕ) → edit_at number id (link_at number id (unlink_at number id None)) ≡ None
  gone_stays number id = by_tests (s.from.0 == id) (s.to.0 == id) (s.id.0 == id)
    where
      by_last : (c : Bool) → cond c (node_after number (change.Edit s.id (edit.Meta s.meta true)) None) None ≡ None
      by_last true = refl
      by_last false = refl

      by_tests : (a b c : Bool) → (let after_unlink = cond a (node_after number (change.Unlink s.from s.name) None) None in
          let after_link = cond b (node_after number (change.Link s.to s.new_name s.id) after_unlink) after_unlink in
          cond c (node_after number (change.Edit s.id (edit.Meta s.meta true)) after_link) after_link ≡ None)
      by_tests true true c = by_last c
      by_tests true false c = by_last c
      by_tests false true c = by_last c
      by_tests false false c = by_last c

  -- a directory has its links set
  directory_after : (number : ℕ) (p : Path) (id : ℕ) (before : Option BareInode) → id_at parts p ≡ Some id → option_map (stays number p None ls) before ≡ link_at number id (unlink_at number id before)
  directory_after number p id before e =
      by_before before
      ∙ ap (λ a. linked_by a (eq_by_cmp path_cmp p out) before) (same_ids p into id s.to.0 e into_id)
      ∙ ap (λ b. linked_by (s.to.0 == id) b before) (same_ids p out id s.from.0 e out_id)
    where
      linked_by : Bool → Bool → Option BareInode → Option BareInode
      linked_by a b o =
          cond a (node_after number (change.Link s.to s.new_name s.id) (cond b (node_after number (change.Unlink s.from s.name) o) o)) (cond b (node_after number (change.Unlink s.from s.name) o) o)

      on_links : (a b : Bool) (x : BareInode) (links : Links) → x.content ≡ directory links
          → Some (record x { content = directory (link_if a s.new_name s.id.0 (unlink_if b s.name links)) }) ≡ linked_by a b (Some (record x { content = directory links }))
      on_links true true x links same = refl
      on_links true false x links same = refl
      on_links false true x links same = refl
      on_links false false x links same = refl

      on_file : (a b : Bool) (x : BareInode) (bytes : List ℕ) (staged : List (ℕ × List ℕ)) → Some (record x { content = file bytes staged }) ≡ linked_by a b (Some (record x { content = file bytes staged }))
      on_file true true x bytes staged = refl
      on_file true false x bytes staged = refl
      on_file false true x bytes staged = refl
      on_file false false x bytes staged = refl

      by_content : (x : BareInode) (c : BareContent) → x.content ≡ c
          → Some (record x { content = relinked_in p ls c }) ≡ linked_by (eq_by_cmp path_cmp p into) (eq_by_cmp path_cmp p out) (Some (record x { content = c }))
      by_content x (directory links) same =
          ap (λ (l : Links). Some (record x { content = directory l })) (links_after p links) ∙ on_links (eq_by_cmp path_cmp p into) (eq_by_cmp path_cmp p out) x links same
      by_content x (file bytes staged) same = on_file (eq_by_cmp path_cmp p into) (eq_by_cmp path_cmp p out) x bytes staged

      nothing : (a b : Bool) → None ≡ linked_by a b None
      nothing true true = refl
      nothing true false = refl
      nothing false true = refl
      nothing false false = refl

      by_before : (o : Option BareInode) → option_map (stays number p None ls) o ≡ linked_by (eq_by_cmp path_cmp p into) (eq_by_cmp path_cmp p out) o
      by_before None = nothing (eq_by_cmp path_cmp p into) (eq_by_cmp path_cmp p out)
      by_before (Some x) = by_content x x.content refl

  -- a directory that isn't what goes stays
  still_there : (p : Path) (id : ℕ) → id_at parts p ≡ Some id → is_old id ≡ false → is_in p (replaced_at m.path s.old) ≡ false
  still_there p id e = by_old s.old refl
    where
      by_old : (o : Option NodeId) → s.old ≡ o → is_one_of id (numbers_of (with_old o)) ≡ false → is_in p (replaced_at m.path o) ≡ false
      by_old None same h = refl
      by_old (Some old) same h = ap (λ b. b || false) (same_ids p m.path id old.0 e (old_id old same)) ∙ h

  -- ---- at each id

  -- the changes leave at each id what the turns leave there
  same_after : (number id : ℕ) → changed_by number id (shifts s) (inode_at parts id) ≡ turned_by number id the_turns (inode_at parts id)
  same_after number id = changes_leave number id (inode_at parts id) ∙ by_old (is_old id) refl
    where
      the_old : (o : Option NodeId) → s.old ≡ o → is_one_of id (numbers_of (with_old o)) ≡ true → None ≡ turned_by number id the_turns (inode_at parts id)
      the_old None same h = absurd (false≢true h)
      the_old (Some old) same h = by_test (old.0 == id) refl h
        where
          by_test : (b : Bool) → (old.0 == id) ≡ b → (b || false) ≡ true → None ≡ turned_by number id the_turns (inode_at parts id)
          by_test true e k = sym (ap (λ i. turned_by number i the_turns (inode_at parts id)) (sym ((unsigned_Decides old.0 id).0 e)) ∙ old_turn number old (inode_at parts id) same)
          by_test false e k = absurd (false≢true k)

      -- the node itself
      the_source : s.id.0 ≡ id → edit_at number id (link_at number id (unlink_at number id (inode_at parts id))) ≡ turned_by number id the_turns (inode_at parts id)
      the_source same = subst (λ i. edit_at number i (link_at number i (unlink_at number i (inode_at parts i))) ≡ turned_by number i the_turns (inode_at parts i)) same
          (ap (λ b. edit_at number s.id.0 (link_at number s.id.0 (cond b (node_after number (change.Unlink s.from s.name) (inode_at parts s.id.0)) (inode_at parts s.id.0)))) (sym (same_ids m.source out s.id.0 s.from.0 source_id out_id) ∙ source_not_out)
          ∙ ap (λ b. edit_at number s.id.0 (cond b (node_after number (change.Link s.to s.new_name s.id) (inode_at parts s.id.0)) (inode_at parts s.id.0))) (sym (same_ids m.source into s.id.0 s.to.0 source_id into_id) ∙ source_not_into)
          ∙ ap (λ b. cond b (node_after number (change.Edit s.id (edit.Meta s.meta true)) (inode_at parts s.id.0)) (inode_at parts s.id.0)) (number_same s.id.0)
          ∙ sym (source_turn number (inode_at parts s.id.0) ∙ source_after number))

      -- a directory, or none of them
      the_others : is_old id ≡ false → (s.id.0 == id) ≡ false → edit_at number id (link_at number id (unlink_at number id (inode_at parts id))) ≡ turned_by number id the_turns (inode_at parts id)
      the_others old other =
          ap (λ b. cond b (node_after number (change.Edit s.id (edit.Meta s.meta true)) (link_at number id (unlink_at number id (inode_at parts id)))) (link_at number id (unlink_at number id (inode_at parts id)))) other
          ∙ by_ids (s.from.0 == id) (s.to.0 == id) refl refl
        where
          at_directory : (p : Path) (i : ℕ) → Among p all → id_at parts p ≡ Some i → eq_by_cmp path_cmp p m.source ≡ false → i ≡ id → link_at number id (unlink_at number id (inode_at parts id)) ≡ turned_by number id the_turns (inode_at parts id)
          at_directory p i h e is_other same =
              let is : id_at parts p ≡ Some id = e ∙ ap Some same in
              sym (directory_turn number p id (inode_at parts id) h is (still_there p id is old) is_other ∙ directory_after number p id (inode_at parts id) is)

          no_turn : (s.from.0 == id) ≡ false → (s.to.0 == id) ≡ false → turned_by number id the_turns (inode_at parts id) ≡ inode_at parts id
          no_turn a b = left_alone number effect ls id kn [] (inode_at parts id) (lacks_all id kn (λ y h same. none_of y same (known_is parts (once all) y h))) tt
            where
              not_that : (p : Path) (i : ℕ) → id_at parts p ≡ Some i → (i == id) ≡ false → (y : Path × ℕ) → y.1 ≡ id → id_at parts y.0 ≡ Some y.1 → y.0 ≡ p → ⊥
              not_that p i e differs y same is k = false≢true (sym differs ∙ (unsigned_Decides i id).1 (same_Some i y.1 (sym e ∙ ap (id_at parts) (sym k) ∙ is) ∙ same))

              not_old : (o : Option NodeId) → s.old ≡ o → is_one_of id (numbers_of (with_old o)) ≡ false → (y : Path × ℕ) → y.1 ≡ id → id_at parts y.0 ≡ Some y.1 → Among y.0 (replaced_at m.path o) → ⊥
              not_old None e h y same is k = k
              not_old (Some i) e h y same is (inl k) = not_that m.path i.0 (old_id i e) (first_of (i.0 == id) h) y same is k
                where
                  first_of : (b : Bool) → (b || false) ≡ false → b ≡ false
                  first_of true f = f
                  first_of false f = refl
              not_old (Some i) e h y same is (inr k) = k

              none_of : (y : Path × ℕ) → y.1 ≡ id → Among y.0 (once all) × (id_at parts y.0 ≡ Some y.1) → ⊥
              none_of y same is = elim (once_among y.0 all is.0) [
                | inl e ↦ not_that out s.from.0 out_id a y same is.1 e
                | inr more ↦ elim more [
                  | inl e ↦ not_that into s.to.0 into_id b y same is.1 e
                  | inr most ↦ elim most [
                    | inl e ↦ not_that m.source s.id.0 source_id other y same is.1 e
                    | inr last ↦ not_old s.old refl old y same is.1 last
                  ]
                ]
              ]

          by_ids : (a b : Bool) → (s.from.0 == id) ≡ a → (s.to.0 == id) ≡ b → link_at number id (unlink_at number id (inode_at parts id)) ≡ turned_by number id the_turns (inode_at parts id)
          by_ids true b e f = at_directory out s.from.0 (inl refl) out_id out_not_source ((unsigned_Decides s.from.0 id).0 e)
          by_ids false true e f = at_directory into s.to.0 (inr (inl refl)) into_id into_not_source ((unsigned_Decides s.to.0 id).0 f)
          by_ids false false e f =
              ap (λ b. cond b (node_after number (change.Link s.to s.new_name s.id) (unlink_at number id (inode_at parts id))) (unlink_at number id (inode_at parts id))) f
              ∙ ap (λ b. cond b (node_after number (change.Unlink s.from s.name) (inode_at parts id)) (inode_at parts id)) e
              ∙ sym (no_turn e f)

      by_source : is_old id ≡ false → (b : Bool) → (s.id.0 == id) ≡ b → edit_at number id (link_at number id (unlink_at number id (inode_at parts id))) ≡ turned_by number id the_turns (inode_at parts id)
      by_source old true e = the_source ((unsigned_Decides s.id.0 id).0 e)
      by_source old false e = the_others old e

      by_old : (b : Bool) → is_old id ≡ b → edit_at number id (link_at number id (unlink_at number id (cond b None (inode_at parts id)))) ≡ turned_by number id the_turns (inode_at parts id)
      by_old true e = gone_stays number id ∙ the_old s.old refl e
      by_old false e = by_source e (s.id.0 == id) refl

  -- ---- the ids that are written

  writes_are : (id : ℕ) → is_one_of id (numbers_of (to_write s)) ≡ is_one_of id (ids_of parts (once all))
  writes_are id =
      ap (λ b. (s.from.0 == id) || ((s.to.0 == id) || ((s.id.0 == id) || b))) (old_ids s.old refl)
      ∙ sym (ap (λ (o : Option ℕ). is_one_of id (map (λ (x : Path × ℕ). x.1) (with_id out o ++ known parts (into ∷ m.source ∷ replaced_at m.path s.old)))) out_id
      ∙ ap (λ (o : Option ℕ). (s.from.0 == id) || is_one_of id (map (λ (x : Path × ℕ). x.1) (with_id into o ++ known parts (m.source ∷ replaced_at m.path s.old)))) into_id
      ∙ ap (λ (o : Option ℕ). (s.from.0 == id) || ((s.to.0 == id) || is_one_of id (map (λ (x : Path × ℕ). x.1) (with_id m.source o ++ known parts (replaced_at m.path s.old))))) source_id)
      ∙ sym (ids_once parts all id)
    where
      old_ids : (o : Option NodeId) → s.old ≡ o → is_one_of id (numbers_of (with_old o)) ≡ is_one_of id (ids_of parts (replaced_at m.path o))
      old_ids None e = refl
      old_ids (Some old) e = sym (ap (λ (o : Option ℕ). is_one_of id (map (λ (x : Path × ℕ). x.1) (with_id m.path o ++ []))) (old_id old e))

-- ---- the draft

module _ (held : Held) (shown : Shown) (request : Request) (moment : ℕ) (fresh : Fresh) (sound : IsSound request) (m : Moving) (reads : List NodeId) (s : Shift)
    (comes : (e : Entry) → e.request ≡ request → e.moment ≡ moment → IsShift shown e m reads s) where
  module _ (parts : Parts) (t : Tree) (e : Placed) (possible : ArePossible shown fresh.pass fresh.used parts t) (of : IsEntryOf request moment fresh t e) where
    whole : IsShift shown e.entry m reads s
    whole = comes e.entry of.asks of.comes_at

    is : IsShiftIn parts t e.entry m reads s
    is = whole.is_shift parts t possible.stands possible.agrees

    abbrev written : List Path
    written = parent m.source ∷ parent m.path ∷ m.source ∷ replaced_at m.path s.old

    abbrev moved_outcome : Outcome
    moved_outcome = without_repeats (with_close request.close (reading is.paths (shifted e.entry m (node_of is.node) (replaced_at m.path s.old))))

    outcome_is : outcome t e.entry ≡ moved_outcome
    unfolding outcome
    outcome_is =
        ap (λ (o : Outcome). without_repeats (with_close e.entry.request.close o)) is.acts_so
        ∙ ap (λ (r : Request). without_repeats (with_close r.close (reading is.paths (shifted e.entry m (node_of is.node) (replaced_at m.path s.old))))) of.asks

    outcome_on_is : outcome_on parts e ≡ moved_outcome
    outcome_on_is = outcome_there shown request moment fresh parts t e possible of ∙ outcome_is

    none_drawn : drawn_ids e ≡ []
    none_drawn = ap (λ (ids : List NodeId). map (λ (i : NodeId). i.0) ids) (of.draws ∙ ap (λ (o : Outcome). next_ids fresh.pass fresh.used (length o.fresh)) outcome_is)

    turns_are : turns_on parts e
        ≡ the_turns parts t possible.stands m e.entry.moment s is.node whole.source_named whole.path_named whole.apart is.moves_out_of is.moves_into is.leads is.there is.meta_is is.replaces
    turns_are =
        ap (λ (o : Outcome). turns_by o (known parts o.written) (drawn_ids e)) outcome_on_is
        ∙ ap (turns_by moved_outcome (known parts (once written))) none_drawn

    written_are : (id : ℕ) → is_one_of id (numbers_of (to_write s)) ≡ is_one_of id (written_ids parts e)
    written_are id =
        writes_are parts t possible.stands m e.entry.moment s is.node whole.source_named whole.path_named whole.apart is.moves_out_of is.moves_into is.leads is.there is.meta_is is.replaces id
        ∙ sym (ap (λ (o : Outcome). is_one_of id (ids_of parts o.written ++ drawn_ids e)) outcome_on_is
        ∙ ap (λ (l : List ℕ). is_one_of id (ids_of parts (once written) ++ l)) none_drawn
        ∙ ap (is_one_of id) (append-nil (ids_of parts (once written))))

    shift_of_step : (d : Draft) → IsShifted request.close moment reads s d → IsOfStep d parts t e
    shift_of_step d moved =
        of_step shown request moment fresh parts t e possible of d sound
        (moved.replies ∙ ap (λ k. closing request.close (success 201 (stamp_fields k))) (sym of.comes_at) ∙ sym (ap (λ (o : Outcome). o.reply) outcome_is))
        (moved.draws_none ∙ sym (ap (λ (o : Outcome). length o.fresh) outcome_is))
        (λ id. ap (λ (l : List NodeId). is_one_of id (numbers_of l)) moved.reads_these ∙ is.reads_are id
        ∙ ap (λ (l : List Path). is_one_of id (ids_of parts l)) (sym (append-nil is.paths))
        ∙ sym (ap (λ (o : Outcome). is_one_of id (ids_of parts o.read)) outcome_on_is ∙ ids_once parts (is.paths ++ []) id))
        (λ id. ap (λ (l : List NodeId). is_one_of id (numbers_of l)) moved.writes_these ∙ written_are id)
        (λ number id. ap (λ cs. changed_by number id cs (inode_at parts id)) moved.changes_these
        ∙ same_after parts t possible.stands m e.entry.moment s is.node whole.source_named whole.path_named whole.apart is.moves_out_of is.moves_into is.leads is.there is.meta_is is.replaces number id
        ∙ sym (ap (λ ts. turned_by number id ts (inode_at parts id)) turns_are))

  -- all that is written is held exclusively, so it moves
  pub shift_draft : (d : Draft) → AreLookedAt held shown reads → AreHeldToWrite held (to_write s) → IsShifted request.close moment reads s d → IsDraft held shown request moment fresh d
  shift_draft d looked both moved = record {
    of_step = λ parts t e possible of. shift_of_step parts t e possible of d moved;
    held_exclusively = λ id h. both id (sym (ap (λ (l : List NodeId). is_one_of id (numbers_of l)) moved.writes_these) ∙ h);
    held_shared = λ id h. (looked id (sym (ap (λ (l : List NodeId). is_one_of id (numbers_of l)) moved.reads_these) ∙ h)).0;
    looked_at = λ id h. (looked id (sym (ap (λ (l : List NodeId). is_one_of id (numbers_of l)) moved.reads_these) ∙ h)).1;
  }

  -- one of the stripes isn't held so, and is needed
  pub shift_need : (n : Need) → LacksStripe held (to_write s) n → IsNeed held shown request moment fresh n
  shift_need n lacks = written_need held shown request moment fresh (to_write s) n lacks (λ parts t e possible of id h. sym (written_are parts t e possible of id) ∙ h)
