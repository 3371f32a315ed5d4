-- The answer of a request for a new filesystem is that of its step.
use Rattle.std.proofs.Common.{◌≡◌, ◌≢◌, ℕ, ◌+◌, ◌==◌, Bool, true, false, cond, List, [], ◌∷◌, ◌++◌, map, length, Option, Some, None, is_some, option_map, unwrap_or, add-zero, Ok, Err, refl, ap, sym, subst, ◌∙◌, arith}
use Rattle.std.proofs.Math.Logic.{∥∥₁_elim}
use mathlib.Core.HLevel.{⊥_prop}
use Rattle.std.proofs.lemmas.Bool.{false≢true}
use Rattle.std.proofs.lemmas.Option.{same_Some}
use Rattle.std.specs.Cmp.{unsigned_Decides}
use Rattle.std.specs.FinMap as fin
use Rattle.std.specs.FinMap.{find}
use Rattle.path_text.specs.Paths.{path_cmp, is_prefix}
use Rattle.namespace_model.specs.declared.code.Code.TheVariants.{FilesystemAlreadyExists, FilesystemNotFound}
use Rattle.namespace_model.specs.declared.op.Op.TheVariants as op
use Rattle.namespace_model.specs.declared.reply.Reply.{Reply}
use Rattle.namespace_model.specs.declared.request.Entry.{Entry}
use Rattle.namespace_model.specs.declared.request.Request.{Request}
use Rattle.namespace_model.specs.CreateFilesystem.{create_filesystem, filesystem_made, new_root}
use Rattle.namespace_model.specs.Effects.{Put, put_by, stamp}
use Rattle.namespace_model.specs.Outcomes.{Outcome, reading, unless, without_repeats}
use Rattle.namespace_model.specs.Refusals.{caller_of, nobody, is_no_superuser, refuse_if}
use Rattle.namespace_model.specs.Replies.{refusal, success, stamp_fields}
use Rattle.namespace_model.specs.Sound.{IsOperation}
use Rattle.namespace_model.specs.Step.{acts, closing, outcome, with_close}
use Rattle.namespace_model.specs.Trees.{Path, Tree, at as at_path, parent}
use Rattle.namespace_model.specs.Walks.{missing_below, ended}
use Rattle.namespace_model.specs.Ways.{read_on}
use Rattle.namespace_model.proofs.Lookups.{same_path}
use Rattle.inode_tree.specs.declared.change.Change.{Change}
use Rattle.inode_tree.specs.declared.change.Change.TheVariants as change
use Rattle.inode_tree.specs.declared.draft.Draft.{Draft}
use Rattle.inode_tree.specs.declared.draft.EvalStop.TheVariants as stop
use Rattle.inode_tree.specs.declared.id.NodeId.{NodeId}
use Rattle.inode_tree.specs.declared.need.Need.{Need}
use Rattle.inode_tree.specs.declared.placed.Placed.{Placed}
use Rattle.inode_tree.specs.After.{Relink, Turn, stays_at, made, making, relinked, relinked_in, inode_with, turned, turns_by, turns_on, known, with_id, drawn_ids, outcome_on}
use Rattle.inode_tree.specs.Changes.{linked, node_after}
use Rattle.inode_tree.specs.Drawing.{next_ids}
use Rattle.inode_tree.specs.Footprints.{ids_of, written_ids}
use Rattle.inode_tree.specs.Inodes.{BareContent, BareInode, directory, file}
use Rattle.inode_tree.specs.Parts.{Parts, inode_at, child_of, follow}
use Rattle.inode_tree.specs.Promises.{IsEntryOf, numbers_of, is_one_of, IsOfStep}
use Rattle.inode_tree.specs.Rows.{fresh_id}
use Rattle.inode_tree.specs.Views.{Held, Shown, Agreeing, ArePossible}
use Rattle.inode_tree.proofs.IndexLemmas.{index_from_stands}
use Rattle.inode_tree.proofs.PromiseLemmas.{of_step, outcome_there, changed_by}
use Rattle.inode_tree.proofs.TurnLemmas.{turned_by}
use Rattle.path_walk.specs.declared.call.Call.{Call}
use Rattle.path_walk.specs.declared.parent.Parent.{Parent}
use Rattle.path_walk.specs.declared.stop.End.{End}
use Rattle.path_walk.specs.Answers.{IsAnswered}
use Rattle.path_walk.specs.Calls.{IsCall, Answers}
use Rattle.path_walk.specs.Holds.{AreHeldToWrite, LacksStripe}
use Rattle.path_walk.specs.Parents.{IsParent, IsParentIn, IsStop}
use Rattle.path_walk.proofs.AnswerLemmas.{answer_is_draft}
use Rattle.path_walk.proofs.CallAnswers.{WalksAs}
use Rattle.path_walk.proofs.FindLemmas.{leads_to}
use Rattle.path_walk.proofs.HoldLemmas.{written_need}
use Rattle.path_walk.proofs.Truths.{both_same, swapped}
use Rattle.op_filesystem.specs.Filesystems.{root_inode, IsMade}
use Rattle.op_filesystem.proofs.RootLemmas.{IsRoot, is_root}
use Rattle.op_filesystem.proofs.SuperuserLemmas.{AsksFirst}

abbrev Given : Type 0
Given = Option (List (List ℕ × List ℕ))

abbrev account_id : NodeId
account_id = record { 0 = 0 }

-- ---- a child

-- the child that a look tells of is there, or isn't
child_there : (c : Option NodeId) (child : Option ℕ) → option_map (λ (id : NodeId). id.0) c ≡ child → is_some c ≡ true → (k : ℕ) × (child ≡ Some k)
child_there None child e h = absurd (false≢true h)
child_there (Some id) child e h = (id.0, sym e)

child_missing : (c : Option NodeId) (child : Option ℕ) → option_map (λ (id : NodeId). id.0) c ≡ child → is_some c ≡ false → child ≡ None
child_missing None child e h = sym e
child_missing (Some id) child e h = absurd (false≢true (sym h))

-- ---- the path of a filesystem

one_name : (path : Path) (n : List ℕ) → length path ≡ 1 → path ≡ parent path ++ n ∷ [] → path ≡ n ∷ []
one_name [] n h e = absurd (omega arith)
one_name (fs ∷ []) n h e = e
one_name (fs ∷ m ∷ names) n h e = absurd (omega arith)

-- ---- the step

module _ (t : Tree) (e : Entry) (p : Path) (props : Given) where
  abbrev behind_account : Outcome
  behind_account = unless (refuse_if (is_some (at_path t p)) FilesystemAlreadyExists) (filesystem_made e p props)

  step_asks : (refused_by : Option Reply) → is_no_superuser (caller_of e) p ≡ refused_by → create_filesystem t e p props ≡ unless refused_by (reading ([] ∷ []) behind_account)
  unfolding create_filesystem
  step_asks refused_by h = ap (λ o. unless o (reading ([] ∷ []) behind_account)) h

  step_finds : (there : Bool) → is_no_superuser (caller_of e) p ≡ None → is_some (at_path t p) ≡ there
      → create_filesystem t e p props ≡ reading ([] ∷ []) (unless (refuse_if there FilesystemAlreadyExists) (filesystem_made e p props))
  step_finds there h k = step_asks None h ∙ ap (λ b. reading ([] ∷ []) (unless (refuse_if b FilesystemAlreadyExists) (filesystem_made e p props))) k

-- ---- the turns

module _ (n : List ℕ) (id : NodeId) (close : Bool) (moment : ℕ) (props : Given) where
  abbrev root : Path
  root = n ∷ []

  abbrev put : Put
  put = stamp moment (new_root props)

  -- what comes of the step
  abbrev made_outcome : Outcome
  made_outcome = record {
    read = [] ∷ [];
    written = [] ∷ root ∷ [];
    fresh = root ∷ [];
    reply = closing close (success 201 (stamp_fields moment));
    effect = record { taken = []; puts = (root, put) ∷ []; move = None };
  }

  abbrev link : List Relink
  link = (root, Some id.0) ∷ []

  abbrev made_turns : List Turn
  made_turns = stays_at 0 [] None link ∷ made id.0 root put link ∷ []

  put_found : find path_cmp root ((root, put) ∷ []) ≡ Some put
  put_found = ap (λ b. cond b (Some put) None) (same_path root)

  -- the account's turn, and that of the root
  turns_are : turns_by made_outcome (([], 0) ∷ []) (id.0 ∷ []) ≡ made_turns
  turns_are = ap (λ o. stays_at 0 [] None link ∷ (making (root, id.0) link o ++ [])) put_found

  -- the root has no children
  no_links : relinked root link fin.empty ≡ fin.empty
  no_links = both_same (is_prefix root root) fin.empty

  linked_account : (c : BareContent) → relinked_in [] link c ≡ linked n id.0 c
  linked_account (directory links) = refl
  linked_account (file bytes staged) = refl

  account_after : (number : ℕ) (before : Option BareInode) → turned number (stays_at 0 [] None link) before ≡ node_after number (change.Link account_id n id) before
  account_after number None = refl
  account_after number (Some y) = ap (λ (c : BareContent). Some (record y { content = c })) (linked_account y.content)

  root_after : (number : ℕ) (any before : Option BareInode) → turned number (made id.0 root put link) any ≡ node_after number (change.Put id (root_inode moment props)) before
  root_after number any before = ap (λ links. Some (inode_with (put_by number put) links)) no_links

  abbrev made_changes : List Change
  made_changes = change.Put id (root_inode moment props) ∷ change.Link account_id n id ∷ []

  -- the changes leave at each id what the turns leave there
  same_after : id.0 ≢ 0 → (number i : ℕ) (before : Option BareInode) → changed_by number i made_changes before ≡ turned_by number i made_turns before
  same_after apart number i before =
      swapped (0 == i) (id.0 == i) (node_after number (change.Link account_id n id)) (node_after number (change.Put id (root_inode moment props)) before) before
      (λ a b. apart ((unsigned_Decides id.0 i).0 b ∙ sym ((unsigned_Decides 0 i).0 a)))
      ∙ ap (λ o. cond (id.0 == i) (node_after number (change.Put id (root_inode moment props)) before) (cond (0 == i) o before)) (sym (account_after number before))
      ∙ ap (λ o. cond (id.0 == i) o (cond (0 == i) (turned number (stays_at 0 [] None link) before) before)) (sym (root_after number (cond (0 == i) (turned number (stays_at 0 [] None link) before) before) before))

  outcome_is : (t : Tree) (e : Entry) → e.request.close ≡ close → e.moment ≡ moment → acts t e e.request.op ≡ reading ([] ∷ []) (filesystem_made e root props) → outcome t e ≡ made_outcome
  unfolding outcome
  outcome_is t e closes at_moment h =
      ap (λ (o : Outcome). without_repeats (with_close e.request.close o)) h
      ∙ ap (λ c. without_repeats (with_close c (reading ([] ∷ []) (filesystem_made e root props)))) closes
      ∙ ap (λ m. record made_outcome { reply = closing close (success 201 (stamp_fields m)); effect = record { taken = []; puts = (root, stamp m (new_root props)) ∷ []; move = None } }) at_moment

-- ---- the answers

module _ (call : Call) (props : Given) (is : IsCall call) (asked : call.request.now.op ≡ op.CreateFilesystem call.path.now props) where
  one_part : length call.path.now ≡ 1
  one_part = (subst (λ o. IsOperation o (length call.request.now.body)) asked is.sound.operation).parts

  root_path : (t : Tree) → IsRoot t call.caller.now call.path.now
  root_path t = is_root t call.caller.now call.path.now one_part

  pub below : call.path.now ≢ []
  below e = let h = one_part in let k = ap (λ (p : Path). length p) e in absurd (omega arith)

  step : (t : Tree) (e : Entry) → e.request ≡ call.request.now → acts t e e.request.op ≡ create_filesystem t e call.path.now props
  step t e asks = ap (λ (r : Request). acts t e r.op) asks ∙ ap (acts t e) asked ∙ ap (λ p. create_filesystem t e p props) (root_path t).whole

  asked_by : (e : Entry) (o : Option Reply) → e.request ≡ call.request.now → is_no_superuser call.caller.now call.path.now ≡ o → is_no_superuser (caller_of e) call.path.now ≡ o
  asked_by e o asks h =
      ap (λ (r : Request). is_no_superuser (unwrap_or r.caller nobody) call.path.now) asks ∙ ap (λ c. is_no_superuser (unwrap_or c nobody) call.path.now) is.by ∙ h

  -- the superuser is asked for first
  pub asks_first : AsksFirst call (λ t e. reading ([] ∷ []) (behind_account t e call.path.now props))
  asks_first t e asks = step t e asks ∙ step_asks t e call.path.now props (is_no_superuser (caller_of e) call.path.now) refl

  -- the step of the superuser walks to the path
  pub walks_as : is_no_superuser call.caller.now call.path.now ≡ None → WalksAs call call.caller.now call.path.now FilesystemNotFound
  walks_as allowed t e asks at =
      let after = behind_account t e call.path.now props in (
        after,
        step t e asks ∙ step_asks t e call.path.now props None (asked_by e None asks allowed)
            ∙ sym (ap (λ w. reading (read_on t call.caller.now call.path.now) (ended (missing_below FilesystemNotFound) FilesystemNotFound after w)) (root_path t).passes
            ∙ ap (λ ps. reading ps after) (root_path t).reads),
      )

  -- the way doesn't end before
  pub never_ended : (held : Held) (shown : Shown) → ∥ Agreeing shown ∥₁ → (ids : List NodeId) (e : End) → IsStop held shown call.caller.now call.path.now ids e → ⊥
  never_ended held shown some ids e stops = ∥∥₁_elim some ⊥_prop (λ a. (stops.is_stop a.parts a.tree a.stands a.agrees).stops (root_path a.tree).passes)

  module _ (held : Held) (shown : Shown) (allowed : is_no_superuser call.caller.now call.path.now ≡ None) (at : Parent) (parent_is : IsParent held shown call.caller.now call.path.now at) where
    abbrev n : List ℕ
    n = at.name.now

    path_is : call.path.now ≡ n ∷ []
    path_is = one_name call.path.now n one_part parent_is.named

    module _ (parts : Parts) (t : Tree) (e : Placed) (possible : ArePossible shown call.fresh.pass call.fresh.used parts t) where
      here : IsParentIn parts t call.caller.now call.path.now at
      here = parent_is.is_parent parts t possible.stands possible.agrees

      read_account : numbers_of at.reads.items ≡ 0 ∷ []
      read_account = here.read ∙ ap (ids_of parts) (root_path t).reads

      leads : (o : Option ℕ) → child_of at.node n ≡ o → follow parts 0 call.path.now ≡ o
      leads = leads_to parts t possible.stands call.caller.now call.path.now at.id.0 at.node n here.leads here.there parent_is.named

      account_is : at.id ≡ account_id
      account_is = ap (λ (i : ℕ). let id : NodeId = record { 0 = i } in id) (same_Some at.id.0 0 (sym here.leads ∙ ap (follow parts 0) (root_path t).above))

    -- the name leads to a filesystem
    pub there_answer : (c : Option NodeId) (d : Draft) → option_map (λ (id : NodeId). id.0) c ≡ child_of at.node n → is_some c ≡ true
        → IsAnswered call.request.now.close (refusal FilesystemAlreadyExists) at.reads.items d → Answers held shown call (Ok d)
    there_answer c d looks there answers =
        let child = child_there c (child_of at.node n) looks there in
        answer_is_draft held shown call.request.now call.moment call.fresh (refusal FilesystemAlreadyExists) at.reads.items d is.sound parent_is.looked answers
        (λ parts t e possible of. (
          [] ∷ [],
          step t e.entry of.asks
              ∙ step_finds t e.entry call.path.now props true (asked_by e.entry None of.asks allowed)
              (ap is_some ((index_from_stands parts t possible.stands).places call.path.now child.0 (leads parts t e possible (Some child.0) child.1)).shows),
          λ id. ap (is_one_of id) (read_account parts t e possible),
        ))

    module _ (id : NodeId) (next : id.0 ≡ fresh_id call.fresh.pass (call.fresh.used + 0)) (c : Option NodeId) (looks : option_map (λ (k : NodeId). k.0) c ≡ child_of at.node n)
        (missing : is_some c ≡ false) where
      free : child_of at.node n ≡ None
      free = child_missing c (child_of at.node n) looks missing

      drawn_is : id.0 ≡ fresh_id call.fresh.pass call.fresh.used
      drawn_is = next ∙ ap (fresh_id call.fresh.pass) (add-zero call.fresh.used)

      abbrev outcome_of : Outcome
      outcome_of = made_outcome n id call.request.now.close call.moment props

      module _ (parts : Parts) (t : Tree) (e : Placed) (possible : ArePossible shown call.fresh.pass call.fresh.used parts t) (of : IsEntryOf call.request.now call.moment call.fresh t e) where
        none_there : follow parts 0 (n ∷ []) ≡ None
        none_there = ap (follow parts 0) (sym path_is) ∙ leads parts t e possible None free

        made_here : outcome t e.entry ≡ outcome_of
        made_here =
            outcome_is n id call.request.now.close call.moment props t e.entry (ap (λ (r : Request). r.close) of.asks) of.comes_at
            (step t e.entry of.asks
            ∙ step_finds t e.entry call.path.now props false (asked_by e.entry None of.asks allowed)
            (ap is_some ((index_from_stands parts t possible.stands).nothing call.path.now (leads parts t e possible None free)))
            ∙ ap (λ p. reading ([] ∷ []) (filesystem_made e.entry p props)) path_is)

        made_on : outcome_on parts e ≡ outcome_of
        made_on = outcome_there shown call.request.now call.moment call.fresh parts t e possible of ∙ made_here

        one_drawn : drawn_ids e ≡ id.0 ∷ []
        one_drawn =
            ap (λ (ids : List NodeId). map (λ (i : NodeId). i.0) ids) (of.draws ∙ ap (λ (o : Outcome). next_ids call.fresh.pass call.fresh.used (length o.fresh)) made_here)
            ∙ ap (λ i. i ∷ []) (sym drawn_is)

        -- of the written paths the account alone has an id
        known_account : known parts ([] ∷ (n ∷ []) ∷ []) ≡ ([], 0) ∷ []
        known_account = ap (λ o. ([], 0) ∷ (with_id (n ∷ []) o ++ [])) none_there

        written_are : written_ids parts e ≡ 0 ∷ id.0 ∷ []
        written_are =
            ap (λ (o : Outcome). ids_of parts o.written ++ drawn_ids e) made_on
            ∙ ap (λ (xs : List (Path × ℕ)). map (λ (y : Path × ℕ). y.1) xs ++ drawn_ids e) known_account ∙ ap (λ (is : List ℕ). 0 ∷ is) one_drawn

        turns_here : turns_on parts e ≡ made_turns n id call.request.now.close call.moment props
        turns_here =
            ap (λ (o : Outcome). turns_by o (known parts o.written) (drawn_ids e)) made_on
            ∙ ap (λ (xs : List (Path × ℕ)). turns_by outcome_of xs (drawn_ids e)) known_account
            ∙ ap (turns_by outcome_of (([], 0) ∷ [])) one_drawn
            ∙ turns_are n id call.request.now.close call.moment props

        apart : id.0 ≢ 0
        apart e = let k = drawn_is in absurd (omega arith)

        both_are : (i : ℕ) → is_one_of i (numbers_of (at.id ∷ id ∷ [])) ≡ is_one_of i (written_ids parts e)
        both_are i = ap (λ (a : NodeId). is_one_of i (numbers_of (a ∷ id ∷ []))) (account_is parts t e possible) ∙ sym (ap (is_one_of i) written_are)

        -- a draft by which it is made is that of the step
        made_of_step : (d : Draft) → IsMade call props at id d → IsOfStep d parts t e
        made_of_step d is_made =
            of_step shown call.request.now call.moment call.fresh parts t e possible of d is.sound
            (is_made.replies ∙ sym (ap (λ (o : Outcome). o.reply) made_here))
            (is_made.draws_one ∙ sym (ap (λ (o : Outcome). length o.fresh) made_here))
            (λ i. ap (λ (l : List NodeId). is_one_of i (numbers_of l)) is_made.reads_these ∙ ap (is_one_of i) (read_account parts t e possible)
            ∙ sym (ap (λ (o : Outcome). is_one_of i (ids_of parts o.read)) made_on))
            (λ i. ap (λ (l : List NodeId). is_one_of i (numbers_of l)) is_made.writes_both ∙ both_are i)
            (λ number i.
            ap (λ cs. changed_by number i cs (inode_at parts i)) is_made.changes_both
            ∙ ap (λ (a : NodeId). changed_by number i (change.Put id (root_inode call.moment props) ∷ change.Link a n id ∷ []) (inode_at parts i)) (account_is parts t e possible)
            ∙ same_after n id call.request.now.close call.moment props apart number i (inode_at parts i)
            ∙ sym (ap (λ ts. turned_by number i ts (inode_at parts i)) turns_here))

      -- both stripes are held exclusively, so it is made
      pub made_answer : (d : Draft) → AreHeldToWrite held (at.id ∷ id ∷ []) → IsMade call props at id d → Answers held shown call (Ok d)
      made_answer d both is_made = record {
        of_step = λ parts t e possible of. made_of_step parts t e possible of d is_made;
        held_exclusively = λ i h. both i (sym (ap (λ (l : List NodeId). is_one_of i (numbers_of l)) is_made.writes_both) ∙ h);
        held_shared = λ i h. (parent_is.looked i (sym (ap (λ (l : List NodeId). is_one_of i (numbers_of l)) is_made.reads_these) ∙ h)).0;
        looked_at = λ i h. (parent_is.looked i (sym (ap (λ (l : List NodeId). is_one_of i (numbers_of l)) is_made.reads_these) ∙ h)).1;
      }

      -- one of them isn't, so it is needed
      pub lacking_answer : (m : Need) → LacksStripe held (at.id ∷ id ∷ []) m → Answers held shown call (Err (stop.Need m))
      lacking_answer m lacks =
          written_need held shown call.request.now call.moment call.fresh (at.id ∷ id ∷ []) m lacks (λ parts t e possible of i h. sym (both_are parts t e possible of i) ∙ h)
