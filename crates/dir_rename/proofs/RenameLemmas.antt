-- How far a rename has come, and what its answers owe.
use Rattle.std.proofs.Common.{◌≡◌, ◌≢◌, ℕ, ◌≤◌, ◌==◌, Bool, true, false, cond, not, ◌&&◌, List, [], ◌∷◌, ◌++◌, length, Option, Some, None, option_map, unwrap_or, Ok, Err, refl, ap, sym, subst, ◌∙◌, arith}
use Rattle.std.proofs.lemmas.Bool.{false≢true}
use Rattle.std.proofs.lemmas.Bool.Decides.{nat_tests}
use Rattle.std.specs.Option.{option_map_or}
use Rattle.head_text.specs.declared.conditions.Conditions.{Conditions}
use Rattle.head_text.specs.ConditionsOf.{conditions_of}
use Rattle.lease_state.specs.LeaseTable.{lease_may_write}
use Rattle.namespace_model.specs.declared.caller.Caller.{Caller}
use Rattle.namespace_model.specs.declared.code.Code.TheVariants.{FilesystemNotFound, SourcePathNotFound, RenameDestinationParentPathNotFound, PathAlreadyExists, ResourceTypeMismatch, DirectoryNotEmpty, RenameTooLong}
use Rattle.namespace_model.specs.declared.reply.Reply.{Reply}
use Rattle.namespace_model.specs.declared.request.Entry.{Entry}
use Rattle.namespace_model.specs.declared.request.Request.{Request}
use Rattle.namespace_model.specs.Locality.{Among}
use Rattle.namespace_model.specs.Nodes.{Node, is_directory, has_kind, kind_of}
use Rattle.namespace_model.specs.Outcomes.{Outcome, answered, reading, refused, unless}
use Rattle.namespace_model.specs.Refusals.{caller_of, nobody, is_guarded, unmet_for_change, stamps_of, refused_by_lease, refuse_if, or_else}
use Rattle.namespace_model.specs.Rename.{Moving, rename, rename_node, rename_new, rename_over, rename_into, fitted, shifted, grows, some_too_long}
use Rattle.namespace_model.specs.Replies.{refusal}
use Rattle.namespace_model.specs.Sound.{IsOperation, IsBelowRoot, CanBeMoved}
use Rattle.namespace_model.specs.Step.{acts}
use Rattle.namespace_model.specs.Trees.{Path, Tree, parent, is_below, is_bare, subtree}
use Rattle.namespace_model.specs.Walks.{walk, missing_code}
use Rattle.namespace_model.proofs.Lookups.{among_keys, keys_among}
use Rattle.namespace_model.proofs.Prefixes.{both}
use Rattle.path_text.specs.Paths.{is_prefix}
use Rattle.path_text.specs.Texts.{KeepsLimits}
use Rattle.inode_tree.specs.declared.draft.Draft.{Draft}
use Rattle.inode_tree.specs.declared.draft.EvalStop.TheVariants as stop
use Rattle.inode_tree.specs.declared.id.NodeId.{NodeId}
use Rattle.inode_tree.specs.declared.need.Need.{Need}
use Rattle.inode_tree.specs.After.{known}
use Rattle.inode_tree.specs.Footprints.{ids_of}
use Rattle.inode_tree.specs.Inodes.{BareInode, node_of}
use Rattle.inode_tree.specs.Parts.{Parts, inode_at, follow, id_at}
use Rattle.inode_tree.specs.Promises.{is_one_of}
use Rattle.inode_tree.specs.Stands.{Stands}
use Rattle.inode_tree.specs.Views.{Held, Shown, Agrees}
use Rattle.inode_tree.proofs.FrameLemmas.{short_id}
use Rattle.inode_tree.proofs.IndexLemmas.{reached_short}
use Rattle.inode_tree.proofs.PairLemmas.{known_has}
use Rattle.path_walk.specs.declared.call.Call.{Call}
use Rattle.path_walk.specs.declared.stop.Base.{Base}
use Rattle.path_walk.specs.Answers.{IsAnswered}
use Rattle.path_walk.specs.Calls.{IsCall, Answers, GoesOn}
use Rattle.path_walk.specs.Children.{has_children}
use Rattle.path_walk.specs.Visits.{AreLookedAt, IsHeldAndShown}
use Rattle.path_walk.proofs.CallLemmas.{agrees_earlier, looked_later}
use Rattle.path_walk.proofs.QuestionLemmas.{unless_both, unless_rest}
use Rattle.path_walk.proofs.ReadLemmas.{it_is_one}
use Rattle.path_walk.proofs.SetLemmas.{one_has, one_lies}
use Rattle.path_walk.proofs.TrailLemmas.{looked_more}
use Rattle.path_walk.proofs.BareLemmas.{filled_is}
use Rattle.path_order.specs.declared.cursor.Seen.{Seen}
use Rattle.path_order.specs.Cursors.{IsAt}
use Rattle.path_order.specs.Subtrees.{IsTop, NeedsSubtree}
use Rattle.dir_rename.specs.declared.ends.Spot.{Spot}
use Rattle.dir_rename.specs.declared.eval.Asked.{Asked}
use Rattle.dir_rename.specs.declared.eval.Ends.{Ends}
use Rattle.dir_rename.specs.declared.eval.Source.{Source}
use Rattle.dir_rename.specs.declared.lengths.Room.{Room}
use Rattle.dir_rename.specs.declared.shift.Shift.{Shift}
use Rattle.dir_rename.specs.declared.through.Through.{Through}
use Rattle.dir_rename.specs.Ends.{end_step, comes_then, IsIn, IsThere, IsSeenHeld, Reads, IsSpot, NeedsLook}
use Rattle.dir_rename.specs.Lengths.{IsRoom}
use Rattle.dir_rename.specs.Questions.{refusal_new, refusal_over, refusal_by, refusal_of}
use Rattle.dir_rename.specs.Shifts.{replaced_at, IsShiftOf}
use Rattle.dir_rename.specs.Stages.{IsAsked, moving_of, Rest, IsComing, renames, overs, rename_by, id_of, fits, reads_all, moves, IsSource, IsEnds, moved_meta}
use Rattle.dir_rename.specs.Through.{IsThrough}
use Rattle.dir_rename.proofs.StageLemmas.{Always, coming_later, begins, coming_as, coming_on, answer_comes, need_comes, look_answer, look_comes, look_needs}

-- ---- at a later view

none_looked : (held : Held) (shown : Shown) → AreLookedAt held shown []
none_looked held shown id h = absurd (false≢true h)

held_later : {O : Type 0} {held later : Held} {over over_later : O} {shown shown_later : Shown} → GoesOn held later over over_later shown shown_later → (id : NodeId) → IsHeldAndShown held shown id.0
    → IsHeldAndShown later shown_later id.0
held_later {held} {shown} on id is = looked_later on (id ∷ []) (looked_more held shown [] id (none_looked held shown) is) id.0 (it_is_one id)

pub source_later : {O : Type 0} {held later : Held} {over over_later : O} {shown shown_later : Shown} → GoesOn held later over over_later shown shown_later → (call : Call) (asked : Asked) (s : Source) (rest : Rest)
    → IsSource held shown call asked s rest → IsSource later shown_later call asked s rest
source_later on call asked s rest is = record {
  named = is.named;
  is_in = λ parts t stands agrees. is.is_in parts t stands (agrees_earlier on parts agrees);
  is_top = λ parts t stands agrees. is.is_top parts t stands (agrees_earlier on parts agrees);
  top_held = held_later on s.top.id is.top_held;
  coming = coming_later on call s.reads.items rest is.coming;
}

pub ends_later : {O : Type 0} {held later : Held} {over over_later : O} {shown shown_later : Shown} → GoesOn held later over over_later shown shown_later → (call : Call) (asked : Asked) (s : Ends) (rest : Rest)
    → IsEnds held shown call asked s rest → IsEnds later shown_later call asked s rest
ends_later on call asked s rest is = record {
  named = is.named;
  is_in = λ parts t stands agrees. is.is_in parts t stands (agrees_earlier on parts agrees);
  is_top = λ parts t stands agrees. is.is_top parts t stands (agrees_earlier on parts agrees);
  top_held = held_later on s.top.id is.top_held;
  new_named = is.new_named;
  comes_in = λ parts t stands agrees. is.comes_in parts t stands (agrees_earlier on parts agrees);
  old_there = λ parts t stands agrees. is.old_there parts t stands (agrees_earlier on parts agrees);
  coming = coming_later on call s.reads.items rest is.coming;
}

-- ---- questions

six_both : (a b c d f g : Option Reply) (o : Outcome) → unless a (unless b (unless c (unless d (unless f (unless g o))))) ≡ unless (or_else a (or_else b (or_else c (or_else d (or_else f g))))) o
six_both a b c d f g o =
    unless_rest a _ _ _ (unless_rest b _ _ _ (unless_rest c _ _ _ (unless_rest d _ _ _ (unless_both f g o))))

module _ (call : Call) (is : IsCall call) (asked : Asked) (op_is : IsAsked call asked) where
  abbrev m : Moving
  m = moving_of call asked

  abbrev caller : Caller
  caller = call.caller.now

  abbrev source : Path
  source = asked.source.now

  abbrev path : Path
  path = call.path.now

  sound_so : IsBelowRoot path × IsBelowRoot source × CanBeMoved source path
  sound_so = subst (λ o. IsOperation o (length call.request.now.body)) op_is is.sound.operation

  not_empty : (p : Path) → 2 ≤ length p → p ≢ []
  not_empty p long e = absurd (let k : length p ≡ 0 = ap (λ (q : Path). length q) e in omega arith)

  pub some_source : source ≢ []
  some_source = not_empty source sound_so.1.parts

  pub some_path : path ≢ []
  some_path = not_empty path sound_so.0.parts

  pub source_limits : KeepsLimits source
  source_limits = sound_so.1.limits

  pub path_limits : KeepsLimits path
  path_limits = sound_so.0.limits

  apart : is_prefix source path ≡ false
  apart = sound_so.2.apart

  by_it : (e : Entry) → e.request ≡ call.request.now → caller_of e ≡ caller
  by_it e asks = ap (λ (r : Request). unwrap_or r.caller nobody) asks ∙ ap (λ c. unwrap_or c nobody) is.by

  step : (t : Tree) (e : Entry) → e.request ≡ call.request.now → acts t e e.request.op ≡ rename t e m
  step t e asks = ap (λ (r : Request). acts t e r.op) asks ∙ ap (acts t e) op_is

  -- ---- the source

  -- nothing stands at the source
  abbrev lost : Tree → Entry → Node → Outcome
  lost t e dir = refused (missing_code source SourcePathNotFound)

  rename_is : (t : Tree) (e : Entry) → caller_of e ≡ caller → rename t e m ≡ end_step t caller SourcePathNotFound source (lost t e) (rename_node t e m)
  unfolding rename
  rename_is t e by = ap (λ c. end_step t c SourcePathNotFound source (lost t e) (rename_node t e m)) by

  module _ (held : Held) (shown : Shown) where
    starts : IsComing held shown call [] (λ t e. end_step t caller SourcePathNotFound source (lost t e) (rename_node t e m))
    starts = begins held shown call is (λ t e. end_step t caller SourcePathNotFound source (lost t e) (rename_node t e m)) (λ parts t stands agrees e asks moment. step t e asks ∙ rename_is t e (by_it e asks))

    pub source_answer : (ids : List NodeId) (reply : Reply) (d : Draft)
        → ((parts : Parts) (t : Tree) → Stands parts t → Agrees shown parts → Reads parts ids (end_step t caller SourcePathNotFound source) (λ none some. answered reply)) × AreLookedAt held shown ids
        → IsAnswered call.request.now.close reply ids d → Answers held shown call (Ok d)
    source_answer ids reply d ended answers = look_answer held shown call is SourcePathNotFound source lost (λ t e. rename_node t e m) [] starts ids ids reply d ended refl answers

    pub source_needs : (n : Need) → NeedsLook held shown caller SourcePathNotFound source n → Answers held shown call (Err (stop.Need n))
    source_needs n needs = look_needs held shown call is SourcePathNotFound source lost (λ t e. rename_node t e m) [] starts n needs

    module _ (spot : Spot) (is_spot : IsSpot held shown caller SourcePathNotFound source spot) where
      spot_comes : IsComing held shown call spot.reads.items (λ t e. comes_then spot.base.node spot.found (lost t e) (rename_node t e m))
      spot_comes = look_comes held shown call is SourcePathNotFound source lost (λ t e. rename_node t e m) [] starts spot spot.reads.items is_spot refl

      not_one : (k : ℕ) → 2 ≤ k → (k == 1) ≡ false
      not_one k h = grind (arith, nat_tests)

      pub source_missing : spot.found ≡ None → (d : Draft) → IsAnswered call.request.now.close (refusal SourcePathNotFound) spot.reads.items d → Answers held shown call (Ok d)
      source_missing none d answers =
          answer_comes held shown call is spot.reads.items (λ t e. comes_then spot.base.node spot.found (lost t e) (rename_node t e m)) (refusal SourcePathNotFound) d spot_comes
          (λ parts t stands agrees e asks moment.
          ap (λ o. comes_then spot.base.node o (lost t e) (rename_node t e m)) none
          ∙ ap (λ b. answered (refusal (cond b FilesystemNotFound SourcePathNotFound))) (not_one (length source) sound_so.1.parts))
          answers

      pub source_found : (top : Seen) → spot.found ≡ Some top → (s : Source) → s.reads.items ≡ spot.reads.items → s.from ≡ spot.base → s.name.now ≡ spot.name.now → s.top ≡ top
          → IsSource held shown call asked s (renames m s)
      source_found top same s reads from name top_is = record {
        named = is_spot.named ∙ ap (λ n. parent source ++ n ∷ []) (sym name);
        is_in = λ parts t stands agrees. subst (λ (b : Base). IsIn parts source b) (sym from) (is_spot.is_spot parts t stands agrees).is_in;
        is_top = λ parts t stands agrees. subst (λ (x : Seen). IsAt parts source x.id.0 x.node) (sym top_is) (subst (λ (o : Option Seen). IsThere parts source o) same (is_spot.is_spot parts t stands agrees).is_there);
        top_held = subst (λ (x : Seen). IsHeldAndShown held shown x.id.0) (sym top_is) (subst (λ (o : Option Seen). IsSeenHeld held shown o) same is_spot.found_held);
        coming = subst (λ (l : List NodeId). IsComing held shown call l (renames m s)) (sym reads)
            (coming_as held shown call is spot.reads.items (λ t e. comes_then spot.base.node spot.found (lost t e) (rename_node t e m)) (renames m s) spot_comes (λ parts t stands agrees e asks moment.
            ap (λ o. comes_then spot.base.node o (lost t e) (rename_node t e m)) same
            ∙ ap (λ (b : Base). rename_node t e m (node_of b.node) (node_of top.node)) (sym from)
            ∙ ap (λ (x : Seen). rename_node t e m (node_of s.from.node) (node_of x.node)) (sym top_is)));
      }

    -- ---- the sticky bit

    module _ (s : Source) (is_source : IsSource held shown call asked s (renames m s)) where
      abbrev asks_sticky : Tree → Entry → Caller → Option Reply → Outcome
      asks_sticky t e c r = unless r (walk t (caller_of e) RenameDestinationParentPathNotFound path (rename_into t e m (node_of s.top.node)))

      sticky_is : (t : Tree) (e : Entry) (o : Option Reply) → caller_of e ≡ caller → is_guarded caller (node_of s.from.node) source (node_of s.top.node) ≡ o → renames m s t e ≡ asks_sticky t e caller o
      sticky_is t e o by says = ap (λ c. asks_sticky t e caller (is_guarded c (node_of s.from.node) source (node_of s.top.node))) by ∙ ap (asks_sticky t e caller) says

      pub guarded_answer : (reply : Reply) (d : Draft) → is_guarded caller (node_of s.from.node) source (node_of s.top.node) ≡ Some reply → IsAnswered call.request.now.close reply s.reads.items d → Answers held shown call (Ok d)
      guarded_answer reply d says answers =
          answer_comes held shown call is s.reads.items (renames m s) reply d is_source.coming (λ parts t stands agrees e asks moment. sticky_is t e (Some reply) (by_it e asks) says) answers

      pub let_go : is_guarded caller (node_of s.from.node) source (node_of s.top.node) ≡ None → IsSource held shown call asked s (overs m s)
      let_go says = record {
        named = is_source.named;
        is_in = is_source.is_in;
        is_top = is_source.is_top;
        top_held = is_source.top_held;
        coming = coming_as held shown call is s.reads.items (renames m s) (overs m s) is_source.coming (λ parts t stands agrees e asks moment. sticky_is t e None (by_it e asks) says);
      }

    -- ---- the destination

    module _ (s : Source) (is_source : IsSource held shown call asked s (overs m s)) where
      abbrev free : Tree → Entry → Node → Outcome
      free t e dir = rename_new t e m (node_of s.top.node)

      abbrev taken : Tree → Entry → Node → Node → Outcome
      taken t e = rename_over t e m (node_of s.top.node)

      goes_to : IsComing held shown call s.reads.items (λ t e. end_step t caller RenameDestinationParentPathNotFound path (free t e) (taken t e))
      goes_to = coming_as held shown call is s.reads.items (overs m s) (λ t e. end_step t caller RenameDestinationParentPathNotFound path (free t e) (taken t e)) is_source.coming (λ parts t stands agrees e asks moment.
          ap (λ c. end_step t c RenameDestinationParentPathNotFound path (free t e) (taken t e)) (by_it e asks))

      pub path_answer : (ids all : List NodeId) (reply : Reply) (d : Draft)
          → ((parts : Parts) (t : Tree) → Stands parts t → Agrees shown parts → Reads parts ids (end_step t caller RenameDestinationParentPathNotFound path) (λ none some. answered reply)) × AreLookedAt held shown ids
          → all ≡ s.reads.items ++ ids → IsAnswered call.request.now.close reply all d → Answers held shown call (Ok d)
      path_answer ids all reply d ended whole answers = look_answer held shown call is RenameDestinationParentPathNotFound path free taken s.reads.items goes_to ids all reply d ended whole answers

      pub path_needs : (n : Need) → NeedsLook held shown caller RenameDestinationParentPathNotFound path n → Answers held shown call (Err (stop.Need n))
      path_needs n needs = look_needs held shown call is RenameDestinationParentPathNotFound path free taken s.reads.items goes_to n needs

      pub ends_found : (spot : Spot) → IsSpot held shown caller RenameDestinationParentPathNotFound path spot → (x : Ends) → x.reads.items ≡ s.reads.items ++ spot.reads.items → x.from ≡ s.from → x.name.now ≡ s.name.now → x.top ≡ s.top
          → x.to ≡ spot.base → x.new_name.now ≡ spot.name.now → x.old ≡ spot.found → IsEnds held shown call asked x (rename_by m x)
      ends_found spot is_spot x reads from name top to new_name old = record {
        named = is_source.named ∙ ap (λ n. parent source ++ n ∷ []) (sym name);
        is_in = λ parts t stands agrees. subst (λ (b : Base). IsIn parts source b) (sym from) (is_source.is_in parts t stands agrees);
        is_top = λ parts t stands agrees. subst (λ (y : Seen). IsAt parts source y.id.0 y.node) (sym top) (is_source.is_top parts t stands agrees);
        top_held = subst (λ (y : Seen). IsHeldAndShown held shown y.id.0) (sym top) is_source.top_held;
        new_named = is_spot.named ∙ ap (λ n. parent path ++ n ∷ []) (sym new_name);
        comes_in = λ parts t stands agrees. subst (λ (b : Base). IsIn parts path b) (sym to) (is_spot.is_spot parts t stands agrees).is_in;
        old_there = λ parts t stands agrees. subst (λ (o : Option Seen). IsThere parts path o) (sym old) (is_spot.is_spot parts t stands agrees).is_there;
        coming = coming_as held shown call is x.reads.items (λ t e. comes_then spot.base.node spot.found (free t e) (taken t e)) (rename_by m x)
            (look_comes held shown call is RenameDestinationParentPathNotFound path free taken s.reads.items goes_to spot x.reads.items is_spot reads) (λ parts t stands agrees e asks moment.
            ap (λ (y : Seen). comes_then spot.base.node spot.found (λ dir. rename_new t e m (node_of y.node)) (rename_over t e m (node_of y.node))) (sym top)
            ∙ ap (λ (b : Base). comes_then b.node spot.found (λ dir. rename_new t e m (node_of x.top.node)) (rename_over t e m (node_of x.top.node))) (sym to)
            ∙ ap (λ (o : Option Seen). comes_then x.to.node o (λ dir. rename_new t e m (node_of x.top.node)) (rename_over t e m (node_of x.top.node))) (sym old));
      }

    -- ---- both ends

    -- ends of which more was read
    pub ends_on : (s x : Ends) (rest more : Rest) → IsEnds held shown call asked s rest → x.from ≡ s.from → x.name.now ≡ s.name.now → x.top ≡ s.top → x.to ≡ s.to → x.new_name.now ≡ s.new_name.now → x.old ≡ s.old
        → IsComing held shown call x.reads.items more → IsEnds held shown call asked x more
    ends_on s x rest more ends from name top to new_name old coming = record {
      named = ends.named ∙ ap (λ n. parent source ++ n ∷ []) (sym name);
      is_in = λ parts t stands agrees. subst (λ (b : Base). IsIn parts source b) (sym from) (ends.is_in parts t stands agrees);
      is_top = λ parts t stands agrees. subst (λ (y : Seen). IsAt parts source y.id.0 y.node) (sym top) (ends.is_top parts t stands agrees);
      top_held = subst (λ (y : Seen). IsHeldAndShown held shown y.id.0) (sym top) ends.top_held;
      new_named = ends.new_named ∙ ap (λ n. parent path ++ n ∷ []) (sym new_name);
      comes_in = λ parts t stands agrees. subst (λ (b : Base). IsIn parts path b) (sym to) (ends.comes_in parts t stands agrees);
      old_there = λ parts t stands agrees. subst (λ (o : Option Seen). IsThere parts path o) (sym old) (ends.old_there parts t stands agrees);
      coming = coming;
    }

    ends_as : (s : Ends) (rest more : Rest) → IsEnds held shown call asked s rest → Always held shown call is (λ parts t e. rest t e ≡ more t e) → IsEnds held shown call asked s more
    ends_as s rest more ends same = ends_on s s rest more ends refl refl refl refl refl refl (coming_as held shown call is s.reads.items rest more ends.coming same)

    module _ (s : Ends) (ends : IsEnds held shown call asked s (rename_by m s)) where
      abbrev x : Node
      x = node_of s.top.node

      abbrev dir : Node
      dir = node_of s.to.node

      -- the questions by what the conditions and the lease id of the request are, and the moment
      abbrev asking_new : Tree → Entry → Conditions → Option ℕ → ℕ → Outcome
      asking_new t e k l moment = unless (unmet_for_change (conditions_of k None)) (unless (refused_by_lease (lease_may_write x.lease l moment)) (fitted t e m x []))

      new_is : (t : Tree) (e : Entry) → e.request ≡ call.request.now → e.moment ≡ call.moment → rename_new t e m x ≡ unless (refusal_new call s.top.node) (fitted t e m x [])
      new_is t e asks moment =
          ap (λ (r : Request). asking_new t e r.cond r.source_lease e.moment) asks
          ∙ ap (λ k. asking_new t e call.request.now.cond call.request.now.source_lease k) moment
          ∙ unless_both (unmet_for_change (conditions_of call.request.now.cond None)) (refused_by_lease (lease_may_write x.lease call.request.now.source_lease call.moment)) (fitted t e m x [])

      -- the same where a node is there, also by the caller, and whether it is a directory that isn't empty
      abbrev asking_over : Tree → Entry → BareInode → Caller → Conditions → Option ℕ → ℕ → Bool → Outcome
      asking_over t e y c k l moment filled =
          unless (is_guarded c dir path (node_of y))
          (unless (refuse_if (option_map_or (λ tags. tags.any) k.none false) PathAlreadyExists)
          (unless (unmet_for_change (conditions_of k (Some (stamps_of (node_of y)))))
          (unless (refused_by_lease (lease_may_write x.lease l moment))
          (unless (refuse_if (not (has_kind (kind_of x) (node_of y))) ResourceTypeMismatch)
          (unless (refuse_if filled DirectoryNotEmpty)
          (fitted t e m x (path ∷ [])))))))

      over_is : (t : Tree) (e : Entry) (y : BareInode) → e.request ≡ call.request.now → e.moment ≡ call.moment → (is_directory (node_of y) && not (is_bare t path)) ≡ has_children y
          → rename_over t e m x dir (node_of y) ≡ unless (refusal_over call s.to.node s.top.node y) (fitted t e m x (path ∷ []))
      over_is t e y asks moment filled =
          ap (λ c. asking_over t e y c e.request.cond e.request.source_lease e.moment (is_directory (node_of y) && not (is_bare t path))) (by_it e asks)
          ∙ ap (λ (r : Request). asking_over t e y caller r.cond r.source_lease e.moment (is_directory (node_of y) && not (is_bare t path))) asks
          ∙ ap (λ k. asking_over t e y caller call.request.now.cond call.request.now.source_lease k (is_directory (node_of y) && not (is_bare t path))) moment
          ∙ ap (asking_over t e y caller call.request.now.cond call.request.now.source_lease call.moment) filled
          ∙ six_both (is_guarded caller dir path (node_of y)) (refuse_if (option_map_or (λ tags. tags.any) call.request.now.cond.none false) PathAlreadyExists)
          (unmet_for_change (conditions_of call.request.now.cond (Some (stamps_of (node_of y))))) (refused_by_lease (lease_may_write x.lease call.request.now.source_lease call.moment))
          (refuse_if (not (has_kind (kind_of x) (node_of y))) ResourceTypeMismatch) (refuse_if (has_children y) DirectoryNotEmpty) (fitted t e m x (path ∷ []))

      asks_so : Always held shown call is (λ parts t e. rename_by m s t e ≡ unless (refusal_of call s) (fits m s t e))
      asks_so parts t stands agrees e asks moment = by_old s.old (ends.old_there parts t stands agrees)
        where
          by_old : (o : Option Seen) → IsThere parts path o
              → comes_then s.to.node o (λ dir. rename_new t e m x) (rename_over t e m x) ≡ unless (refusal_by call s.to.node s.top.node o) (fitted t e m x (replaced_at path (id_of o)))
          by_old None there = new_is t e asks moment
          by_old (Some old) there = over_is t e old.node asks moment (filled_is parts t stands path old.id.0 old.node there.leads there.there)

      pub refused_answer : (reply : Reply) (d : Draft) → refusal_of call s ≡ Some reply → IsAnswered call.request.now.close reply s.reads.items d → Answers held shown call (Ok d)
      refused_answer reply d says answers =
          answer_comes held shown call is s.reads.items (rename_by m s) reply d ends.coming (λ parts t stands agrees e asks moment.
          asks_so parts t stands agrees e asks moment ∙ ap (λ o. unless o (fits m s t e)) says) answers

      pub not_refused : refusal_of call s ≡ None → IsEnds held shown call asked s (fits m s)
      not_refused says = ends_as s (rename_by m s) (fits m s) ends (λ parts t stands agrees e asks moment. asks_so parts t stands agrees e asks moment ∙ ap (λ o. unless o (fits m s t e)) says)

    -- ---- the lengths

    module _ (s : Ends) (ends : IsEnds held shown call asked s (fits m s)) where
      abbrev by_growth : Tree → Entry → Bool → Outcome
      by_growth t e b =
          cond b (reading (subtree t source) (unless (refuse_if (some_too_long m (subtree t source)) RenameTooLong) (shifted e m (node_of s.top.node) (replaced_at path (id_of s.old)))))
          (shifted e m (node_of s.top.node) (replaced_at path (id_of s.old)))

      pub may_exceed : (is_directory (node_of s.top.node) && grows m) ≡ true → IsEnds held shown call asked s (reads_all m s)
      may_exceed h = ends_as s (fits m s) (reads_all m s) ends (λ parts t stands agrees e asks moment. ap (by_growth t e) h)

      pub may_not : (is_directory (node_of s.top.node) && grows m) ≡ false → IsEnds held shown call asked s (moves m s)
      may_not h = ends_as s (fits m s) (moves m s) ends (λ parts t stands agrees e asks moment. ap (by_growth t e) h)

    module _ (s : Ends) (ends : IsEnds held shown call asked s (reads_all m s)) where
      pub source_top : IsTop shown source s.top
      source_top = ends.is_top

      -- a stripe in which a node below lies is needed
      pub below_needs : (n : Need) → NeedsSubtree held shown source n → Answers held shown call (Err (stop.Need n))
      below_needs n needs =
          need_comes held shown call is s.reads.items (reads_all m s) n ends.coming needs.within needs.asks needs.lacks (λ parts t stands agrees e asks moment.
          let one = needs.needed parts t stands agrees in
          let key = keys_among t (is_below source) one.0 one.1.1.0 in
          let here : Among one.0 (subtree t source) = among_keys t (is_prefix source) one.0 key.1 (both _ _ key.0).0 in
          let id : id_at parts one.0 ≡ Some one.1.0 = short_id parts one.0 (reached_short parts t stands one.0 one.1.0 one.1.1.1.0) ∙ one.1.1.1.0 in
          record {
            paths = subtree t source;
            after = unless (refuse_if (some_too_long m (subtree t source)) RenameTooLong) (shifted e m (node_of s.top.node) (replaced_at path (id_of s.old)));
            goes = refl;
            lies = one_lies n.stripe one.1.0 (ids_of parts (subtree t source)) (one_has (known parts (subtree t source)) (one.0, one.1.0) (known_has parts (subtree t source) one.0 one.1.0 here id)) (sym one.1.1.1.1);
          })

      module _ (room : Room) (is_room : IsRoom path room) (through : Through) (looked : IsThrough held shown source room through) (all : List NodeId) (whole : all ≡ s.reads.items ++ through.ids.items) where
        was_read : (b : Bool) → through.too_long ≡ b
            → IsComing held shown call all (λ t e. unless (refuse_if b RenameTooLong) (shifted e m (node_of s.top.node) (replaced_at path (id_of s.old))))
        was_read b same =
            coming_on held shown call is s.reads.items through.ids.items all (reads_all m s) (λ t e. unless (refuse_if b RenameTooLong) (shifted e m (node_of s.top.node) (replaced_at path (id_of s.old)))) ends.coming looked.looked whole
            (λ parts t stands agrees e asks moment. record {
              paths = subtree t source;
              goes = ap (λ c. reading (subtree t source) (unless (refuse_if c RenameTooLong) (shifted e m (node_of s.top.node) (replaced_at path (id_of s.old))))) (sym (looked.says path some_path is_room parts t stands agrees) ∙ same);
              are = λ id. ap (is_one_of id) (looked.ids parts t stands agrees);
            })

        pub too_long_answer : through.too_long ≡ true → (reply : Reply) → reply ≡ refusal RenameTooLong → (d : Draft) → IsAnswered call.request.now.close reply all d → Answers held shown call (Ok d)
        too_long_answer same reply replies d answers =
            answer_comes held shown call is all (λ t e. unless (refuse_if true RenameTooLong) (shifted e m (node_of s.top.node) (replaced_at path (id_of s.old)))) reply d (was_read true same)
            (λ parts t stands agrees e asks moment. ap answered (sym replies)) answers

        pub all_fit : through.too_long ≡ false → (x : Ends) → x.reads.items ≡ all → x.from ≡ s.from → x.name.now ≡ s.name.now → x.top ≡ s.top → x.to ≡ s.to → x.new_name.now ≡ s.new_name.now → x.old ≡ s.old
            → IsEnds held shown call asked x (moves m x)
        all_fit same x reads from name top to new_name old =
            ends_on s x (reads_all m s) (moves m x) ends from name top to new_name old
            (subst (λ (l : List NodeId). IsComing held shown call l (moves m x)) (sym reads)
            (coming_as held shown call is all (λ t e. unless (refuse_if false RenameTooLong) (shifted e m (node_of s.top.node) (replaced_at path (id_of s.old)))) (moves m x) (was_read false same)
            (λ parts t stands agrees e asks moment.
            ap (λ (y : Seen). shifted e m (node_of y.node) (replaced_at path (id_of s.old))) (sym top) ∙ ap (λ (o : Option Seen). shifted e m (node_of x.top.node) (replaced_at path (id_of o))) (sym old))))

    -- ---- the move

    old_leads : (parts : Parts) (o : Option Seen) → IsThere parts path o → follow parts 0 path ≡ option_map (λ (id : NodeId). id.0) (id_of o)
    old_leads parts None there = there
    old_leads parts (Some old) there = there.leads

    pub shift_comes : (s : Ends) → IsEnds held shown call asked s (moves m s) → (shift : Shift) → shift.old ≡ id_of s.old → shift.from ≡ s.from.id → shift.name ≡ s.name.now → shift.to ≡ s.to.id → shift.new_name ≡ s.new_name.now
        → shift.id ≡ s.top.id → shift.meta ≡ moved_meta call asked s.top.node → IsShiftOf shown call s.reads.items shift
    shift_comes s ends shift old from name to new_name id meta = (
      m,
      λ e asks moment. record {
        source_named = ends.named ∙ ap (λ n. parent source ++ n ∷ []) (sym name);
        path_named = ends.new_named ∙ ap (λ n. parent path ++ n ∷ []) (sym new_name);
        apart = apart;
        is_shift = λ parts t stands agrees.
            let c = ends.coming.comes parts t stands agrees e asks moment in
            let top = ends.is_top parts t stands agrees in
            record {
              paths = c.paths;
              node = s.top.node;
              acts_so = c.acts_so ∙ ap (λ (o : Option NodeId). reading c.paths (shifted e m (node_of s.top.node) (replaced_at path o))) (sym old);
              reads_are = c.reads_are;
              moves_out_of = (ends.is_in parts t stands agrees).leads ∙ ap (λ (i : NodeId). Some i.0) (sym from);
              moves_into = (ends.comes_in parts t stands agrees).leads ∙ ap (λ (i : NodeId). Some i.0) (sym to);
              leads = top.leads ∙ ap (λ (i : NodeId). Some i.0) (sym id);
              there = ap (λ (i : NodeId). inode_at parts i.0) id ∙ top.there;
              meta_is = meta ∙ ap (λ k. record s.top.node.meta { props = unwrap_or asked.props.now s.top.node.meta.props; moment = k }) (sym moment);
              replaces = old_leads parts s.old (ends.old_there parts t stands agrees) ∙ ap (option_map (λ (i : NodeId). i.0)) (sym old);
            };
      },
    )
