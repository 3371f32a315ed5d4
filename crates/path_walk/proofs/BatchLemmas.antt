-- A draft by which many nodes are edited in their places is that of its step.
use Rattle.std.proofs.Common.{◌≡◌, ◌≢◌, ◌⊎◌, inl, inr, ℕ, ◌==◌, Bool, true, false, cond, ◌||◌, List, [], ◌∷◌, ◌++◌, map, length, Option, Some, None, option_map, refl, ap, sym, subst, ◌∙◌, append-nil}
use Rattle.std.proofs.lemmas.Bool.{false≢true}
use Rattle.std.specs.Cmp.{unsigned_Decides}
use Rattle.std.specs.FinMap.{find}
use Rattle.path_text.specs.Paths.{path_cmp}
use Rattle.namespace_model.specs.declared.reply.Reply.{Reply}
use Rattle.namespace_model.specs.declared.request.Entry.{Entry}
use Rattle.namespace_model.specs.declared.request.Request.{Request}
use Rattle.namespace_model.specs.Effects.{Effect}
use Rattle.namespace_model.specs.Locality.{Among}
use Rattle.namespace_model.specs.Outcomes.{Outcome, once, without_repeats}
use Rattle.namespace_model.specs.Sound.{IsSound}
use Rattle.namespace_model.specs.Step.{outcome, with_close}
use Rattle.namespace_model.specs.Trees.{Path, Tree}
use Rattle.namespace_model.proofs.Lookups.{same_path}
use Rattle.namespace_model.proofs.PageOrder.{before_itself, Ascends}
use Rattle.namespace_model.proofs.StepLocality.{among_once}
use Rattle.inode_tree.specs.declared.change.Edit.{Edit}
use Rattle.inode_tree.specs.declared.draft.Draft.{Draft}
use Rattle.inode_tree.specs.declared.fresh.Fresh.{Fresh}
use Rattle.inode_tree.specs.declared.id.NodeId.{NodeId}
use Rattle.inode_tree.specs.declared.need.Need.{Need}
use Rattle.inode_tree.specs.declared.placed.Placed.{Placed}
use Rattle.inode_tree.specs.After.{Turn, stays_at, turns, turns_by, turns_on, turned, with_id, known, drawn_ids, outcome_on}
use Rattle.inode_tree.specs.Changes.{edited as inode_edited}
use Rattle.inode_tree.specs.Drawing.{next_ids}
use Rattle.inode_tree.specs.Footprints.{ids_of, written_ids}
use Rattle.inode_tree.specs.Inodes.{BareInode}
use Rattle.inode_tree.specs.Parts.{Parts, inode_at, id_at}
use Rattle.inode_tree.specs.Promises.{IsEntryOf, numbers_of, is_one_of, IsOfStep, IsDraft, IsNeed}
use Rattle.inode_tree.specs.Stands.{Stands}
use Rattle.inode_tree.specs.Views.{Held, Shown, ArePossible}
use Rattle.inode_tree.proofs.FrameLemmas.{short_id}
use Rattle.inode_tree.proofs.IndexLemmas.{reached_short, cut_follow}
use Rattle.inode_tree.proofs.LinkLemmas.{path_differs}
use Rattle.inode_tree.proofs.PairLemmas.{once_is_once, known_has, known_is, known_once}
use Rattle.inode_tree.proofs.PromiseLemmas.{of_step, outcome_there, changed_by}
use Rattle.inode_tree.proofs.TurnLemmas.{turned_by, number_same, number_differs, Within, HasIdsOnce, lacks_all, turned_known, left_alone}
use Rattle.path_walk.specs.Batches.{NodeEdit, puts_by, paths_in, edits_by, ids_in, IsPut, Puts, edited_all, IsBatchIn, IsBatch, changes_by, AreEdited}
use Rattle.path_walk.specs.Holds.{AreHeldToWrite, LacksStripe}
use Rattle.path_walk.specs.Visits.{AreLookedAt}
use Rattle.path_walk.proofs.HoldLemmas.{written_need}
use Rattle.path_walk.proofs.SetLemmas.{one_has, ids_once, once_among}
use Rattle.path_walk.proofs.Truths.{either_true}

-- ---- nodes of the list

abbrev In : NodeEdit → List NodeEdit → Type 0
In y [] = ⊥
In y (z ∷ zs) = (y ≡ z) ⊎ In y zs

in_paths : (y : NodeEdit) (zs : List NodeEdit) → In y zs → Among y.path (paths_in (puts_by zs))
in_paths y [] h = absurd h
in_paths y (z ∷ zs) (inl e) = inl (ap (λ (w : NodeEdit). w.path) e)
in_paths y (z ∷ zs) (inr h) = inr (in_paths y zs h)

has_edit : (id : ℕ) (zs : List NodeEdit) → is_one_of id (numbers_of (ids_in (edits_by zs))) ≡ true → (y : NodeEdit) × In y zs × (y.id.0 ≡ id)
has_edit id [] h = absurd (false≢true h)
has_edit id (z ∷ zs) h = by_first (z.id.0 == id) refl h (has_edit id zs)
  where
    by_first : (b : Bool) → (z.id.0 == id) ≡ b → (b || is_one_of id (numbers_of (ids_in (edits_by zs)))) ≡ true
        → (is_one_of id (numbers_of (ids_in (edits_by zs))) ≡ true → (y : NodeEdit) × In y zs × (y.id.0 ≡ id)) → (y : NodeEdit) × In y (z ∷ zs) × (y.id.0 ≡ id)
    by_first true same k more = (z, inl refl, (unsigned_Decides z.id.0 id).0 same)
    by_first false other k more = let rest = more k in (rest.0, inr rest.1, rest.2)

edit_has : (y : NodeEdit) (zs : List NodeEdit) → In y zs → is_one_of y.id.0 (numbers_of (ids_in (edits_by zs))) ≡ true
edit_has y [] h = absurd h
edit_has y (z ∷ zs) (inl e) = ap (λ (w : NodeEdit). (w.id.0 == y.id.0) || is_one_of y.id.0 (numbers_of (ids_in (edits_by zs)))) (sym e) ∙ ap (λ b. b || is_one_of y.id.0 (numbers_of (ids_in (edits_by zs)))) (number_same y.id.0)
edit_has y (z ∷ zs) (inr h) = ap (λ b. (z.id.0 == y.id.0) || b) (edit_has y zs h) ∙ either_true (z.id.0 == y.id.0)

-- ---- what is put

put_of : (parts : Parts) (y : NodeEdit) (zs : List NodeEdit) → Puts parts zs → In y zs → IsPut parts y
put_of parts y [] puts h = absurd h
put_of parts y (z ∷ zs) puts (inl e) = subst (IsPut parts) (sym e) puts.0
put_of parts y (z ∷ zs) puts (inr h) = put_of parts y zs puts.1.1 h

found_put : (parts : Parts) (y : NodeEdit) (zs : List NodeEdit) → Puts parts zs → In y zs → find path_cmp y.path (puts_by zs) ≡ Some y.put
found_put parts y [] puts h = absurd h
found_put parts y (z ∷ zs) puts (inl e) =
    ap (λ (w : NodeEdit). find path_cmp w.path (puts_by (z ∷ zs))) e ∙ ap (λ b. cond b (Some z.put) (find path_cmp z.path (puts_by zs))) (same_path z.path) ∙ ap (λ (w : NodeEdit). Some w.put) (sym e)
found_put parts y (z ∷ zs) puts (inr h) =
    ap (λ b. cond b (Some z.put) (find path_cmp y.path (puts_by zs))) (path_differs y.path z.path (λ e. puts.1.0 (subst (λ p. Among p (paths_in (puts_by zs))) e (in_paths y zs h))))
    ∙ found_put parts y zs puts.1.1 h

-- each is put so, and the paths ascend: then none stands twice
abbrev pub EachIsPut : Parts → List NodeEdit → Type 0
EachIsPut parts [] = Unit {0}
EachIsPut parts (y ∷ ys) = IsPut parts y × EachIsPut parts ys

pub puts_ascending : (parts : Parts) (ys : List NodeEdit) → Ascends (paths_in (puts_by ys)) → EachIsPut parts ys → Puts parts ys
puts_ascending parts [] up each = tt
puts_ascending parts (y ∷ ys) up each = (each.0, ((λ h. before_itself y.path (up.0 y.path h)), puts_ascending parts ys up.1 each.1))

module _ (parts : Parts) (t : Tree) (stands : Stands parts t) where
  id_is : (y : NodeEdit) → IsPut parts y → id_at parts y.path ≡ Some y.id.0
  id_is y is = short_id parts y.path (reached_short parts t stands y.path y.id.0 is.leads) ∙ is.leads

  ids_are : (zs : List NodeEdit) → Puts parts zs → ids_of parts (paths_in (puts_by zs)) ≡ numbers_of (ids_in (edits_by zs))
  ids_are [] puts = refl
  ids_are (z ∷ zs) puts =
      ap (λ (o : Option ℕ). map (λ (x : Path × ℕ). x.1) (with_id z.path o ++ known parts (paths_in (puts_by zs)))) (id_is z puts.0) ∙ ap (λ l. z.id.0 ∷ l) (ids_are zs puts.1.1)

  one_path : (p q : Path) (id : ℕ) → id_at parts p ≡ Some id → id_at parts q ≡ Some id → p ≡ q
  one_path p q id e f = stands.once p q id (cut_follow parts p id e).1 (cut_follow parts q id f).1

  -- an id of the list isn't that of a path that isn't of the list
  ids_apart : (z w : NodeEdit) (zs : List NodeEdit) → IsPut parts z → Puts parts zs → (Among z.path (paths_in (puts_by zs)) → ⊥) → In w zs → w.id.0 ≢ z.id.0
  ids_apart z w zs is puts apart h same =
      apart (subst (λ p. Among p (paths_in (puts_by zs))) (stands.once w.path z.path z.id.0 ((put_of parts w zs puts h).leads ∙ ap Some same) is.leads) (in_paths w zs h))

  -- ---- what the changes leave

  others_stay : (number i : ℕ) (zs : List NodeEdit) (before : Option BareInode) → ((w : NodeEdit) → In w zs → w.id.0 ≢ i) → changed_by number i (changes_by (edits_by zs)) before ≡ before
  others_stay number i [] before h = refl
  others_stay number i (z ∷ zs) before h =
      ap (λ b. changed_by number i (changes_by (edits_by zs)) (cond b (option_map (inode_edited number z.edit) before) before)) (number_differs z.id.0 i (h z (inl refl)))
      ∙ others_stay number i zs before (λ w k. h w (inr k))

  one_changed : (number : ℕ) (y : NodeEdit) (zs : List NodeEdit) (before : Option BareInode) → Puts parts zs → In y zs
      → changed_by number y.id.0 (changes_by (edits_by zs)) before ≡ option_map (inode_edited number y.edit) before
  one_changed number y [] before puts h = absurd h
  one_changed number y (z ∷ zs) before puts (inl e) =
      ap (λ (w : NodeEdit). changed_by number w.id.0 (changes_by (edits_by (z ∷ zs))) before) e
      ∙ ap (λ b. changed_by number z.id.0 (changes_by (edits_by zs)) (cond b (option_map (inode_edited number z.edit) before) before)) (number_same z.id.0)
      ∙ others_stay number z.id.0 zs (option_map (inode_edited number z.edit) before) (λ w k. ids_apart z w zs puts.0 puts.1.1 puts.1.0 k)
      ∙ ap (λ (w : NodeEdit). option_map (inode_edited number w.edit) before) (sym e)
  one_changed number y (z ∷ zs) before puts (inr h) =
      ap (λ b. changed_by number y.id.0 (changes_by (edits_by zs)) (cond b (option_map (inode_edited number z.edit) before) before))
      (number_differs z.id.0 y.id.0 (λ same. ids_apart z y zs puts.0 puts.1.1 puts.1.0 h (sym same)))
      ∙ one_changed number y zs before puts.1.1 h

  -- ---- what the turns leave

  module _ (ys : List NodeEdit) (puts : Puts parts ys) where
    abbrev effect : Effect
    effect = record { taken = []; puts = puts_by ys; move = None }

    abbrev written : List Path
    written = once (paths_in (puts_by ys))

    abbrev kn : List (Path × ℕ)
    kn = known parts (once (paths_in (puts_by ys)))

    abbrev the_turns : List Turn
    the_turns = turns effect [] kn []

    each_once : HasIdsOnce kn
    each_once = known_once parts one_path written (once_is_once (paths_in (puts_by ys)))

    one_turned : (number : ℕ) (y : NodeEdit) (before : Option BareInode) → In y ys → turned_by number y.id.0 the_turns before ≡ turned number (stays_at y.id.0 y.path (Some y.put) []) before
    one_turned number y before h =
        turned_known number effect [] kn [] (y.path, y.id.0) before each_once
        (known_has parts written y.path y.id.0 (among_once y.path (paths_in (puts_by ys)) (in_paths y ys h)) (id_is y (put_of parts y ys puts h))) tt
        ∙ ap (λ o. turned number (stays_at y.id.0 y.path o []) before) (found_put parts y ys puts h)

    -- the id of a written path is one of the list
    written_has : (x : Path × ℕ) → Within x kn → is_one_of x.1 (numbers_of (ids_in (edits_by ys))) ≡ true
    written_has x h = let is = known_is parts written x h in by_path ys puts (once_among x.0 (paths_in (puts_by ys)) is.0) is.1
      where
        by_path : (zs : List NodeEdit) → Puts parts zs → Among x.0 (paths_in (puts_by zs)) → id_at parts x.0 ≡ Some x.1 → is_one_of x.1 (numbers_of (ids_in (edits_by zs))) ≡ true
        by_path zs all k is = subst (λ (ids : List ℕ). is_one_of x.1 ids ≡ true) (ids_are zs all) (one_has (known parts (paths_in (puts_by zs))) (x.0, x.1) (known_has parts (paths_in (puts_by zs)) x.0 x.1 k is))

    -- the changes leave at each id what the turns leave there
    same_after : (number i : ℕ) → changed_by number i (changes_by (edits_by ys)) (inode_at parts i) ≡ turned_by number i the_turns (inode_at parts i)
    same_after number i = by_test (is_one_of i (numbers_of (ids_in (edits_by ys)))) refl
      where
        at_one : (y : NodeEdit) → In y ys → changed_by number y.id.0 (changes_by (edits_by ys)) (inode_at parts y.id.0) ≡ turned_by number y.id.0 the_turns (inode_at parts y.id.0)
        at_one y h =
            let is = put_of parts y ys puts h in
            one_changed number y ys (inode_at parts y.id.0) puts h
            ∙ ap (option_map (inode_edited number y.edit)) is.there
            ∙ ap Some (is.leaves (stands.kinds y.id.0 y.node is.there) number)
            ∙ sym (one_turned number y (inode_at parts y.id.0) h ∙ ap (turned number (stays_at y.id.0 y.path (Some y.put) [])) is.there)

        by_test : (b : Bool) → is_one_of i (numbers_of (ids_in (edits_by ys))) ≡ b → changed_by number i (changes_by (edits_by ys)) (inode_at parts i) ≡ turned_by number i the_turns (inode_at parts i)
        by_test true e = let one = has_edit i ys e in subst (λ j. changed_by number j (changes_by (edits_by ys)) (inode_at parts j) ≡ turned_by number j the_turns (inode_at parts j)) one.2 (at_one one.0 one.1)
        by_test false e =
            others_stay number i ys (inode_at parts i) (λ w h same. false≢true (sym e ∙ ap (λ j. is_one_of j (numbers_of (ids_in (edits_by ys)))) (sym same) ∙ edit_has w ys h))
            ∙ sym (left_alone number effect [] i kn [] (inode_at parts i)
            (lacks_all i kn (λ x h same. false≢true (sym e ∙ ap (λ j. is_one_of j (numbers_of (ids_in (edits_by ys)))) (sym same) ∙ written_has x h))) tt)

-- ---- the draft

module _ (held : Held) (shown : Shown) (request : Request) (moment : ℕ) (fresh : Fresh) (sound : IsSound request) (reads : List NodeId) (edits : List (NodeId × Edit)) (reply : Reply)
    (comes : (e : Entry) → e.request ≡ request → e.moment ≡ moment → IsBatch shown e reads edits reply) where
  module _ (parts : Parts) (t : Tree) (e : Placed) (possible : ArePossible shown fresh.pass fresh.used parts t) (of : IsEntryOf request moment fresh t e) where
    batch : IsBatchIn parts t e.entry reads edits reply
    batch = comes e.entry of.asks of.comes_at parts t possible.stands possible.agrees

    abbrev the_outcome : Outcome
    the_outcome = without_repeats (with_close request.close (edited_all batch.paths (puts_by batch.nodes) reply))

    outcome_is : outcome t e.entry ≡ the_outcome
    unfolding outcome
    outcome_is =
        ap (λ (o : Outcome). without_repeats (with_close e.entry.request.close o)) batch.acts_so
        ∙ ap (λ (r : Request). without_repeats (with_close r.close (edited_all batch.paths (puts_by batch.nodes) reply))) of.asks

    on_is : outcome_on parts e ≡ the_outcome
    on_is = outcome_there shown request moment fresh parts t e possible of ∙ outcome_is

    none_drawn : drawn_ids e ≡ []
    none_drawn = ap (λ (ids : List NodeId). map (λ (i : NodeId). i.0) ids) (of.draws ∙ ap (λ (o : Outcome). next_ids fresh.pass fresh.used (length o.fresh)) outcome_is)

    turns_are : turns_on parts e ≡ the_turns parts t possible.stands batch.nodes batch.puts
    turns_are =
        ap (λ (o : Outcome). turns_by o (known parts o.written) (drawn_ids e)) on_is
        ∙ ap (turns_by the_outcome (known parts (once (paths_in (puts_by batch.nodes))))) none_drawn

    written_are : (i : ℕ) → is_one_of i (numbers_of (ids_in edits)) ≡ is_one_of i (written_ids parts e)
    written_are i =
        ap (λ (l : List (NodeId × Edit)). is_one_of i (numbers_of (ids_in l))) batch.edits_are
        ∙ sym (ap (is_one_of i) (ids_are parts t possible.stands batch.nodes batch.puts))
        ∙ sym (ids_once parts (paths_in (puts_by batch.nodes)) i)
        ∙ sym (ap (λ (o : Outcome). is_one_of i (ids_of parts o.written ++ drawn_ids e)) on_is
        ∙ ap (λ l. is_one_of i (ids_of parts (once (paths_in (puts_by batch.nodes))) ++ l)) none_drawn
        ∙ ap (is_one_of i) (append-nil (ids_of parts (once (paths_in (puts_by batch.nodes))))))

    edited_of_step : (d : Draft) → AreEdited request.close reply reads edits d → IsOfStep d parts t e
    edited_of_step d ed =
        of_step shown request moment fresh parts t e possible of d sound
        (ed.replies ∙ sym (ap (λ (o : Outcome). o.reply) outcome_is))
        (ed.draws_none ∙ sym (ap (λ (o : Outcome). length o.fresh) outcome_is))
        (λ i. ap (λ (l : List NodeId). is_one_of i (numbers_of l)) ed.reads_these ∙ batch.reads_are i
        ∙ sym (ap (λ (o : Outcome). is_one_of i (ids_of parts o.read)) on_is ∙ ids_once parts batch.paths i))
        (λ i. ap (λ (l : List NodeId). is_one_of i (numbers_of l)) ed.writes_them ∙ written_are i)
        (λ number i. ap (λ cs. changed_by number i cs (inode_at parts i)) (ed.changes_them ∙ ap changes_by batch.edits_are)
        ∙ same_after parts t possible.stands batch.nodes batch.puts number i ∙ sym (ap (λ ts. turned_by number i ts (inode_at parts i)) turns_are))

  -- the nodes are held exclusively, so they are edited
  pub batch_draft : (d : Draft) → AreLookedAt held shown reads → AreHeldToWrite held (ids_in edits) → AreEdited request.close reply reads edits d → IsDraft held shown request moment fresh d
  batch_draft d looked exclusive ed = record {
    of_step = λ parts t e possible of. edited_of_step parts t e possible of d ed;
    held_exclusively = λ i h. exclusive i (sym (ap (λ (l : List NodeId). is_one_of i (numbers_of l)) ed.writes_them) ∙ h);
    held_shared = λ i h. (looked i (sym (ap (λ (l : List NodeId). is_one_of i (numbers_of l)) ed.reads_these) ∙ h)).0;
    looked_at = λ i h. (looked i (sym (ap (λ (l : List NodeId). is_one_of i (numbers_of l)) ed.reads_these) ∙ h)).1;
  }

  -- a stripe of them isn't, and is needed
  pub batch_need : (n : Need) → LacksStripe held (ids_in edits) n → IsNeed held shown request moment fresh n
  batch_need n lacks = written_need held shown request moment fresh (ids_in edits) n lacks (λ parts t e possible of i h. sym (written_are parts t e possible of i) ∙ h)
