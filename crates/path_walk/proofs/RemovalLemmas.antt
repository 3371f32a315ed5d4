-- The draft by which a node and all that stands below it go is that of its step.
use Rattle.std.proofs.Common.{◌≡◌, inl, inr, ℕ, suc, ◌+◌, ◌==◌, Bool, true, false, cond, ◌||◌, List, [], ◌∷◌, ◌++◌, map, length, Option, Some, None, option_map, IsSome, refl, ap, sym, ◌∙◌, append-nil, arith}
use Rattle.std.proofs.lemmas.Bool.{false≢true}
use Rattle.std.proofs.lemmas.Option.{same_Some}
use Rattle.std.specs.Cmp.{unsigned_Decides}
use Rattle.std.specs.Cmp.Lexicographic.{nat_list_cmp_total}
use Rattle.std.specs.FinMap as fin
use Rattle.std.specs.Ordering.{eq_by_cmp}
use Rattle.path_text.specs.Paths.{is_prefix}
use Rattle.namespace_model.specs.declared.reply.Reply.{Reply}
use Rattle.namespace_model.specs.declared.request.Entry.{Entry}
use Rattle.namespace_model.specs.declared.request.Request.{Request}
use Rattle.namespace_model.specs.Effects.{Effect}
use Rattle.namespace_model.specs.Locality.{Among}
use Rattle.namespace_model.specs.Outcomes.{Outcome, once, without_repeats}
use Rattle.namespace_model.specs.Sound.{IsSound}
use Rattle.namespace_model.specs.Step.{outcome, with_close}
use Rattle.namespace_model.specs.Trees.{Path, Tree, at, parent, subtree}
use Rattle.namespace_model.proofs.Effected.{is_in, in_tells, among_is_in, same_behind}
use Rattle.namespace_model.proofs.Lookups.{among_keys, keys_among}
use Rattle.namespace_model.proofs.Prefixes.{behind_front, front_of_itself, length_append}
use Rattle.namespace_model.proofs.StepLocality.{among_once}
use Rattle.inode_tree.specs.declared.change.Change.{Change}
use Rattle.inode_tree.specs.declared.change.Change.TheVariants as change
use Rattle.inode_tree.specs.declared.draft.Draft.{Draft}
use Rattle.inode_tree.specs.declared.fresh.Fresh.{Fresh}
use Rattle.inode_tree.specs.declared.id.NodeId.{NodeId}
use Rattle.inode_tree.specs.declared.need.Need.{Need}
use Rattle.inode_tree.specs.declared.placed.Placed.{Placed}
use Rattle.inode_tree.specs.After.{Relink, relinks, Turn, stays_at, turn_of, turns, turns_by, turns_on, turned, stays, relinked, relinked_in, with_id, known, drawn_ids, outcome_on}
use Rattle.inode_tree.specs.After as turn
use Rattle.inode_tree.specs.Changes.{unlinked, node_after}
use Rattle.inode_tree.specs.ChildLists.{name_cmp}
use Rattle.inode_tree.specs.Drawing.{next_ids}
use Rattle.inode_tree.specs.Footprints.{ids_of, written_ids}
use Rattle.inode_tree.specs.Inodes.{BareContent, directory, file, BareInode}
use Rattle.inode_tree.specs.Parts.{Parts, inode_at, follow, id_at}
use Rattle.inode_tree.specs.Promises.{IsEntryOf, numbers_of, is_one_of, IsOfStep, IsDraft, IsNeed}
use Rattle.inode_tree.specs.Stands.{Stands}
use Rattle.inode_tree.specs.Views.{Held, Shown, ArePossible}
use Rattle.inode_tree.proofs.FrameLemmas.{short_id}
use Rattle.inode_tree.proofs.IndexLemmas.{reached_short, cut_follow}
use Rattle.inode_tree.proofs.LinkLemmas.{last_link, last-taken, get-relinked, key_tells, key_same}
use Rattle.inode_tree.proofs.MapLemmas.{name_cmp-IsAntisymmetric}
use Rattle.inode_tree.proofs.PairLemmas.{once_is_once, known_has, known_is, known_once}
use Rattle.inode_tree.proofs.PromiseLemmas.{of_step, outcome_there, changed_by}
use Rattle.inode_tree.proofs.TurnLemmas.{turned_by, Within, HasIdsOnce, lacks_all, turned_known, left_alone}
use Rattle.path_walk.specs.Holds.{AreHeldToWrite, LacksStripe}
use Rattle.path_walk.proofs.HoldLemmas.{written_need}
use Rattle.path_walk.proofs.SetLemmas.{one_has, has_one, ids_once, once_among}
use Rattle.path_walk.specs.declared.removals.Removal.{Removal}
use Rattle.path_walk.specs.Removals.{taken_out, IsRemovalIn, IsRemoval, removals, IsRemoved}
use Rattle.path_walk.specs.Visits.{AreLookedAt}

-- ---- what the changes leave

drops : List NodeId → List Change
drops ids = map (λ (id : NodeId). change.Drop id) ids

two_tests : (a b : Bool) (o : Option BareInode) → cond b None (cond a None o) ≡ cond (a || b) None o
two_tests true true o = refl
two_tests true false o = refl
two_tests false true o = refl
two_tests false false o = refl

drops_leave : (number id : ℕ) (ids : List NodeId) (before : Option BareInode) → changed_by number id (map (λ (i : NodeId). change.Drop i) ids) before ≡ cond (is_one_of id (numbers_of ids)) None before
drops_leave number id [] before = refl
drops_leave number id (d ∷ ids) before = drops_leave number id ids (cond (d.0 == id) None before) ∙ two_tests (d.0 == id) (is_one_of id (numbers_of ids)) before

changes_leave : (number id : ℕ) (base : NodeId) (name : List ℕ) (taken : List NodeId) (before : Option BareInode)
    → changed_by number id (removals base name taken) before ≡ cond (is_one_of id (numbers_of taken)) None (cond (base.0 == id) (node_after number (change.Unlink base name) before) before)
changes_leave number id base name taken before = drops_leave number id taken (cond (base.0 == id) (node_after number (change.Unlink base name) before) before)

-- ---- what the turns leave

module _ (parts : Parts) (t : Tree) (stands : Stands parts t) (path : Path) (base : NodeId) (name : List ℕ) (taken : List NodeId)
    (named : path ≡ parent path ++ name ∷ []) (stands_in : follow parts 0 (parent path) ≡ Some base.0) (there : IsSome (at t path))
    (takes : (id : ℕ) → is_one_of id (numbers_of taken) ≡ is_one_of id (ids_of parts (subtree t path))) where
  abbrev ps : List Path
  ps = subtree t path

  abbrev written : List Path
  written = once (parent path ∷ subtree t path)

  abbrev kn : List (Path × ℕ)
  kn = known parts (once (parent path ∷ subtree t path))

  abbrev effect : Effect
  effect = record { taken = subtree t path; puts = []; move = None }

  abbrev ls : List Relink
  ls = relinks effect kn []

  base_id : id_at parts (parent path) ≡ Some base.0
  base_id = short_id parts (parent path) (reached_short parts t stands (parent path) base.0 stands_in) ∙ stands_in

  one_path : (p q : Path) (id : ℕ) → id_at parts p ≡ Some id → id_at parts q ≡ Some id → p ≡ q
  one_path p q id e f = stands.once p q id (cut_follow parts p id e).1 (cut_follow parts q id f).1

  longer : length path ≡ length (parent path) + 1
  longer = ap (λ (l : Path). length l) named ∙ length_append (parent path) (name ∷ [])

  -- the parent isn't below the path
  parent_stays : Among (parent path) ps → ⊥
  parent_stays h =
      let rest = behind_front path (parent path) (keys_among t (is_prefix path) (parent path) h).0 in
      let sum : length (parent path) ≡ length path + length rest.0 = ap (λ (l : Path). length l) rest.1 ∙ length_append path rest.0 in
      let long = longer in
      absurd (omega arith)

  not_in : (q : Path) → (Among q ps → ⊥) → is_in q ps ≡ false
  not_in q h = elim (in_tells q ps) [ inl k ↦ absurd (h k) | inr e ↦ e ]

  -- of the names in the parent the one of the path is taken away
  one_name : (n : List ℕ) → is_in (parent path ++ n ∷ []) ps ≡ eq_by_cmp name_cmp n name
  one_name n = elim (key_tells name_cmp nat_list_cmp_total name_cmp-IsAntisymmetric n name) [
    | inl e ↦
        ap (λ p. is_in p ps) (ap (λ m. parent path ++ m ∷ []) e ∙ sym named)
        ∙ among_is_in path ps (among_keys t (is_prefix path) path there (front_of_itself path))
        ∙ sym (ap (λ m. eq_by_cmp name_cmp m name) e ∙ key_same name_cmp nat_list_cmp_total name_cmp-IsAntisymmetric name)
    | inr other ↦
        not_in (parent path ++ n ∷ []) (λ h.
        let rest = behind_front path (parent path ++ n ∷ []) (keys_among t (is_prefix path) (parent path ++ n ∷ []) h).0 in
        false≢true (sym other ∙ ap (λ m. eq_by_cmp name_cmp m name) (same_last rest.0 rest.1) ∙ key_same name_cmp nat_list_cmp_total name_cmp-IsAntisymmetric name))
        ∙ sym other
  ]
    where
      head_is : List (List ℕ) → List ℕ
      head_is [] = name
      head_is (m ∷ ms) = m

      same_last : (r : Path) → parent path ++ n ∷ [] ≡ path ++ r → n ≡ name
      same_last [] e = ap head_is (same_behind (parent path) (n ∷ []) (name ∷ []) (e ∙ append-nil path ∙ named))
      same_last (m ∷ r) e =
          let sum : length (parent path ++ n ∷ []) ≡ length path + suc (length r) = ap (λ (l : Path). length l) e ∙ length_append path (m ∷ r) in
          let one : length (parent path ++ n ∷ []) ≡ length (parent path) + 1 = length_append (parent path) (n ∷ []) in
          let long = longer in
          absurd (omega arith)

  links_are : (q : Path) (before : Option ℕ) → last_link ls q before ≡ cond (is_in q ps) None before
  links_are q before = ap (λ (l : List Relink). last_link l q before) no_more ∙ last-taken ps q before
    where
      no_more : ls ≡ map (λ (p : Path). (p, None)) ps
      no_more = nils (map (λ (p : Path). (p, None)) ps)
        where
          nils : (xs : List Relink) → xs ++ [] ++ [] ≡ xs
          nils [] = refl
          nils (x ∷ xs) = ap (λ l. x ∷ l) (nils xs)

  content_after : (c : BareContent) → relinked_in (parent path) ls c ≡ unlinked name c
  content_after (file bytes staged) = refl
  content_after (directory links) = ap directory (fin.same_map nat_list_cmp_total name_cmp-IsAntisymmetric (relinked (parent path) ls links) (fin.remove links name) (λ n.
      get-relinked (parent path) n ls links ∙ links_are (parent path ++ n ∷ []) (fin.get links n)
      ∙ ap (λ b. cond b None (fin.get links n)) (one_name n) ∙ sym (fin.get-remove nat_list_cmp_total links name n)))

  base_after : (number : ℕ) (before : Option BareInode) → option_map (stays number (parent path) None ls) before ≡ node_after number (change.Unlink base name) before
  base_after number None = refl
  base_after number (Some x) = ap (λ (c : BareContent). Some (record x { content = c })) (content_after x.content)

  ids_apart : HasIdsOnce kn
  ids_apart = known_once parts one_path written (once_is_once (parent path ∷ ps))

  base_known : Within (parent path, base.0) kn
  base_known = known_has parts written (parent path) base.0 (among_once (parent path) (parent path ∷ ps) (inl refl)) base_id

  abbrev the_turns : List Turn
  the_turns = turns effect ls kn []

  base_turn : (number : ℕ) (before : Option BareInode) → turned_by number base.0 the_turns before ≡ node_after number (change.Unlink base name) before
  base_turn number before =
      turned_known number effect ls kn [] (parent path, base.0) before ids_apart base_known tt
      ∙ ap (λ b. turned number (cond b (turn.gone base.0) (stays_at base.0 (parent path) None ls)) before) (not_in (parent path) parent_stays)
      ∙ base_after number before

  taken_turn : (number id : ℕ) (before : Option BareInode) → is_one_of id (numbers_of taken) ≡ true → turned_by number id the_turns before ≡ None
  taken_turn number id before h =
      let found = has_one (known parts ps) id (sym (takes id) ∙ h) in
      let is = known_is parts ps (found.0, id) found.1 in
      turned_known number effect ls kn [] (found.0, id) before ids_apart (known_has parts written found.0 id (among_once found.0 (parent path ∷ ps) (inr is.0)) is.1) tt
      ∙ ap (λ b. turned number (cond b (turn.gone id) (stays_at id found.0 None ls)) before) (among_is_in found.0 ps is.0)

  no_turn : (number id : ℕ) (before : Option BareInode) → is_one_of id (numbers_of taken) ≡ false → (base.0 == id) ≡ false → turned_by number id the_turns before ≡ before
  no_turn number id before h k = left_alone number effect ls id kn [] before (lacks_all id kn (λ y m same. other y same (known_is parts written y m))) tt
    where
      other : (y : Path × ℕ) → y.1 ≡ id → Among y.0 written × (id_at parts y.0 ≡ Some y.1) → ⊥
      other y same is = elim (once_among y.0 (parent path ∷ ps) is.0) [
        | inl e ↦ absurd (false≢true (sym k ∙ (unsigned_Decides base.0 id).1 (same_Some base.0 y.1 (sym base_id ∙ ap (id_at parts) (sym e) ∙ is.1) ∙ same)))
        | inr m ↦ absurd (false≢true (sym h ∙ takes id ∙ one_has (known parts ps) (y.0, id) (known_has parts ps y.0 id m (is.1 ∙ ap Some same))))
      ]

  -- the changes leave at each id what the turns leave there
  same_after : (number id : ℕ) (before : Option BareInode) → changed_by number id (removals base name taken) before ≡ turned_by number id the_turns before
  same_after number id before = changes_leave number id base name taken before ∙ by_tests (is_one_of id (numbers_of taken)) (base.0 == id) refl refl
    where
      by_tests : (a b : Bool) → is_one_of id (numbers_of taken) ≡ a → (base.0 == id) ≡ b → cond a None (cond b (node_after number (change.Unlink base name) before) before) ≡ turned_by number id the_turns before
      by_tests true b e f = sym (taken_turn number id before e)
      by_tests false true e f = sym (base_turn number before) ∙ ap (λ i. turned_by number i the_turns before) ((unsigned_Decides base.0 id).0 f)
      by_tests false false e f = sym (no_turn number id before e f)

  -- the ids that are written
  writes_are : (id : ℕ) → is_one_of id (numbers_of (base ∷ taken)) ≡ is_one_of id (ids_of parts written)
  writes_are id =
      ap (λ b. (base.0 == id) || b) (takes id)
      ∙ sym (ap (λ (o : Option ℕ). is_one_of id (map (λ (x : Path × ℕ). x.1) (with_id (parent path) o ++ known parts ps))) base_id)
      ∙ sym (ids_once parts (parent path ∷ ps) id)

-- ---- the draft

module _ (held : Held) (shown : Shown) (request : Request) (moment : ℕ) (fresh : Fresh) (sound : IsSound request) (path : Path) (reads : List NodeId) (removal : Removal) (reply : Reply)
    (comes : (e : Entry) → e.request ≡ request → e.moment ≡ moment → IsRemoval shown e path reads removal reply) where
  abbrev base : NodeId
  base = removal.base

  abbrev taken : List NodeId
  taken = removal.taken.items

  module _ (parts : Parts) (t : Tree) (e : Placed) (possible : ArePossible shown fresh.pass fresh.used parts t) (of : IsEntryOf request moment fresh t e) where
    whole : IsRemoval shown e.entry path reads removal reply
    whole = comes e.entry of.asks of.comes_at

    is : IsRemovalIn parts t e.entry path reads removal reply
    is = whole.is_removal parts t possible.stands possible.agrees

    abbrev gone_outcome : Outcome
    gone_outcome = without_repeats (with_close request.close (taken_out is.paths (parent path) (subtree t path) reply))

    outcome_is : outcome t e.entry ≡ gone_outcome
    unfolding outcome
    outcome_is =
        ap (λ (o : Outcome). without_repeats (with_close e.entry.request.close o)) is.acts_so
        ∙ ap (λ (r : Request). without_repeats (with_close r.close (taken_out is.paths (parent path) (subtree t path) reply))) of.asks

    outcome_on_is : outcome_on parts e ≡ gone_outcome
    outcome_on_is = outcome_there shown request moment fresh parts t e possible of ∙ outcome_is

    none_drawn : drawn_ids e ≡ []
    none_drawn = ap (λ (ids : List NodeId). map (λ (i : NodeId). i.0) ids) (of.draws ∙ ap (λ (o : Outcome). next_ids fresh.pass fresh.used (length o.fresh)) outcome_is)

    turns_are : turns_on parts e ≡ the_turns parts t possible.stands path base removal.name taken whole.named is.stands_in is.there is.takes
    turns_are =
        ap (λ (o : Outcome). turns_by o (known parts o.written) (drawn_ids e)) outcome_on_is
        ∙ ap (turns_by gone_outcome (known parts (once (parent path ∷ subtree t path)))) none_drawn

    written_are : (id : ℕ) → is_one_of id (numbers_of (base ∷ taken)) ≡ is_one_of id (written_ids parts e)
    written_are id =
        writes_are parts t possible.stands path base removal.name taken whole.named is.stands_in is.there is.takes id
        ∙ sym (ap (λ (o : Outcome). is_one_of id (ids_of parts o.written ++ drawn_ids e)) outcome_on_is
        ∙ ap (λ (l : List ℕ). is_one_of id (ids_of parts (once (parent path ∷ subtree t path)) ++ l)) none_drawn
        ∙ ap (is_one_of id) (append-nil (ids_of parts (once (parent path ∷ subtree t path)))))

    removed_of_step : (d : Draft) → IsRemoved request.close reply reads base removal.name taken d → IsOfStep d parts t e
    removed_of_step d removed =
        of_step shown request moment fresh parts t e possible of d sound
        (removed.replies ∙ sym (ap (λ (o : Outcome). o.reply) outcome_is))
        (removed.draws_none ∙ sym (ap (λ (o : Outcome). length o.fresh) outcome_is))
        (λ id. ap (λ (l : List NodeId). is_one_of id (numbers_of l)) removed.reads_these ∙ is.reads_are id
        ∙ sym (ap (λ (o : Outcome). is_one_of id (ids_of parts o.read)) outcome_on_is ∙ ids_once parts is.paths id))
        (λ id. ap (λ (l : List NodeId). is_one_of id (numbers_of l)) removed.writes_these ∙ written_are id)
        (λ number id. ap (λ cs. changed_by number id cs (inode_at parts id)) removed.changes_these
        ∙ same_after parts t possible.stands path base removal.name taken whole.named is.stands_in is.there is.takes number id (inode_at parts id)
        ∙ sym (ap (λ ts. turned_by number id ts (inode_at parts id)) turns_are))

  -- all that is written is held exclusively, so it goes
  pub removed_draft : (d : Draft) → AreLookedAt held shown reads → AreHeldToWrite held (base ∷ taken) → IsRemoved request.close reply reads base removal.name taken d → IsDraft held shown request moment fresh d
  removed_draft d looked both removed = record {
    of_step = λ parts t e possible of. removed_of_step parts t e possible of d removed;
    held_exclusively = λ id h. both id (sym (ap (λ (l : List NodeId). is_one_of id (numbers_of l)) removed.writes_these) ∙ h);
    held_shared = λ id h. (looked id (sym (ap (λ (l : List NodeId). is_one_of id (numbers_of l)) removed.reads_these) ∙ h)).0;
    looked_at = λ id h. (looked id (sym (ap (λ (l : List NodeId). is_one_of id (numbers_of l)) removed.reads_these) ∙ h)).1;
  }

  -- one of the stripes isn't held so, and is needed
  pub removal_need : (n : Need) → LacksStripe held (base ∷ taken) n → IsNeed held shown request moment fresh n
  removal_need n lacks = written_need held shown request moment fresh (base ∷ taken) n lacks (λ parts t e possible of id h. sym (written_are parts t e possible of id) ∙ h)
