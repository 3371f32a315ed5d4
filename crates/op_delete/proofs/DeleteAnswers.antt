-- What the answers of a delete owe: on the way, at the parent, at the node, and once it is taken away.
use Rattle.std.proofs.Common.{◌≡◌, ◌≢◌, ℕ, ◌≤◌, Bool, true, false, not, ◌&&◌, ◌||◌, List, [], ◌∷◌, ◌++◌, length, Option, Some, None, unwrap_or, Result, Ok, Err, is_some, refl, sym, ap, subst, ◌∙◌, append-nil, arith}
use Rattle.std.proofs.lemmas.Bool.{false≢true}
use Rattle.std.proofs.lemmas.Option.{same_Some}
use Rattle.head_text.specs.declared.conditions.Unmet.{Unmet}
use Rattle.head_text.specs.ConditionsOf.{conditions_of}
use Rattle.lease_state.specs.LeaseTable.{lease_may_write}
use Rattle.namespace_model.specs.declared.caller.Caller.{Caller}
use Rattle.namespace_model.specs.declared.code.Code.TheVariants.{PathNotFound, DirectoryNotEmpty}
use Rattle.namespace_model.specs.declared.op.Op.TheVariants as op
use Rattle.namespace_model.specs.declared.reply.Reply.{Reply}
use Rattle.namespace_model.specs.declared.request.Entry.{Entry}
use Rattle.namespace_model.specs.declared.request.Request.{Request}
use Rattle.namespace_model.specs.Delete.{delete, delete_node, cleared, gone, not_clearable}
use Rattle.namespace_model.specs.Locality.{Among}
use Rattle.namespace_model.specs.Nodes.{Node, is_directory}
use Rattle.namespace_model.specs.Outcomes.{Outcome, reading, refused, unless}
use Rattle.namespace_model.specs.Refusals.{caller_of, nobody, lacks, is_guarded, unmet_for_change, stamps_of, refused_by_lease, refuse_if, or_else, first_refusal}
use Rattle.namespace_model.specs.Replies.{refusal, success}
use Rattle.namespace_model.specs.Sound.{IsOperation}
use Rattle.namespace_model.specs.Step.{acts}
use Rattle.namespace_model.specs.Trees.{Path, Tree, at, parent, is_below, is_bare, subtree}
use Rattle.namespace_model.specs.Ways.{read_on}
use Rattle.namespace_model.proofs.Alikeness.{among_right}
use Rattle.namespace_model.proofs.Lookups.{among_keys, keys_among}
use Rattle.namespace_model.proofs.Prefixes.{both}
use Rattle.namespace_model.proofs.WayLemmas.{reading_both}
use Rattle.path_text.specs.Paths.{is_prefix}
use Rattle.inode_tree.specs.declared.draft.Draft.{Draft}
use Rattle.inode_tree.specs.declared.draft.EvalStop.TheVariants as stop
use Rattle.inode_tree.specs.declared.id.NodeId.{NodeId}
use Rattle.inode_tree.specs.declared.need.Need.{Need}
use Rattle.inode_tree.specs.After.{known}
use Rattle.inode_tree.specs.Footprints.{ids_of}
use Rattle.inode_tree.specs.Inodes.{BareInode, node_of}
use Rattle.inode_tree.specs.Parts.{Parts, inode_at, follow, id_at}
use Rattle.inode_tree.specs.Promises.{numbers_of, is_one_of}
use Rattle.inode_tree.specs.Stands.{Stands}
use Rattle.inode_tree.specs.Views.{Held, Shown, Agrees}
use Rattle.inode_tree.proofs.FrameLemmas.{short_id}
use Rattle.inode_tree.proofs.IndexLemmas.{index_from_stands, reached_short}
use Rattle.inode_tree.proofs.PairLemmas.{known_has}
use Rattle.path_walk.specs.declared.call.Call.{Call}
use Rattle.path_walk.specs.declared.find.Find.{Find}
use Rattle.path_walk.specs.declared.find.Found.TheVariants as found
use Rattle.path_walk.specs.declared.parent.Parent.{Parent}
use Rattle.path_walk.specs.declared.removals.Removal.{Removal}
use Rattle.path_walk.specs.Answers.{IsAnswered}
use Rattle.path_walk.specs.Calls.{IsCall, Answers, GoesOn}
use Rattle.path_walk.specs.Finds.{read_to, IsFound, IsNeedOfFind, IsLook, IsLookAs}
use Rattle.path_walk.specs.Parents.{IsParent}
use Rattle.path_walk.specs.Settles.{IsRemovalOf}
use Rattle.path_walk.specs.Visits.{AreLookedAt, IsHeldAndShown}
use Rattle.path_walk.proofs.AnswerLemmas.{answer_is_draft, read_need, outcome_reads}
use Rattle.path_walk.proofs.CallAnswers.{WalksAs}
use Rattle.path_walk.proofs.CallLemmas.{agrees_earlier, looked_later}
use Rattle.path_walk.proofs.FindLemmas.{look_finds, node_found, ids_of_append}
use Rattle.path_walk.proofs.ReadLemmas.{both_lists, looked_both}
use Rattle.path_walk.proofs.SetLemmas.{one_has, one_lies}
use Rattle.path_walk.proofs.TrailLemmas.{one_of_append}
use Rattle.path_order.specs.Cursors.{IsAt}
use Rattle.path_order.specs.Subtrees.{IsTop, NeedsSubtree}
use Rattle.op_delete.specs.declared.clear.Cleared.{Cleared}
use Rattle.op_delete.specs.declared.eval.Target.{Target}
use Rattle.path_walk.specs.Children.{has_children}
use Rattle.op_delete.specs.Deletes.{refusal_of, IsTarget, IsCleared}
use Rattle.op_delete.proofs.ClearLemmas.{top_later}
use Rattle.op_delete.proofs.DeleteSteps.{behind_way, way_is, denied_is, missing_is, found_is, node_is}
use Rattle.op_delete.proofs.SubtreeLemmas.{children_there, alone_ids}

rest_none : (a b : Option Reply) → or_else a b ≡ None → b ≡ None
rest_none None b e = e
rest_none (Some r) b e = absurd (false≢true (sym (ap is_some e)))

module _ (call : Call) (is : IsCall call) (recursive : Bool) (asked : call.request.now.op ≡ op.Delete call.path.now recursive) where
  abbrev path : Path
  path = call.path.now

  abbrev caller : Caller
  caller = call.caller.now

  step : (t : Tree) (e : Entry) → e.request ≡ call.request.now → acts t e e.request.op ≡ delete t e path recursive
  step t e asks = ap (λ (r : Request). acts t e r.op) asks ∙ ap (acts t e) asked

  by_it : (e : Entry) → e.request ≡ call.request.now → caller_of e ≡ caller
  by_it e asks = ap (λ (r : Request). unwrap_or r.caller nobody) asks ∙ ap (λ c. unwrap_or c nobody) is.by

  long_path : 2 ≤ length path
  long_path = (subst (λ o. IsOperation o (length call.request.now.body)) asked is.sound.operation).parts

  pub some_path : path ≢ []
  some_path e = absurd (let l = long_path in let k : length path ≡ 0 = ap (λ (p : Path). length p) e in omega arith)

  -- ---- the way

  pub walks : WalksAs call caller path PathNotFound
  walks t e asks moment = (behind_way t e path recursive caller (by_it e asks), step t e asks ∙ way_is t e path recursive caller (by_it e asks))

  -- ---- the parent

  module _ (held : Held) (shown : Shown) (in_it : Parent) (is_in : IsParent held shown caller path in_it) where
    -- the directory that was reached is there
    dir_there : (parts : Parts) (t : Tree) → Stands parts t → Agrees shown parts → at t (parent path) ≡ Some (node_of in_it.node)
    dir_there parts t stands agrees =
        let here = is_in.is_parent parts t stands agrees in
        let place = (index_from_stands parts t stands).places (parent path) in_it.id.0 here.leads in
        place.shows ∙ ap (λ (y : BareInode). Some (node_of y)) (same_Some place.inode in_it.node (sym place.found ∙ here.there))

    pub denied_answer : (reply : Reply) (d : Draft) → lacks caller 3 (parent path) (node_of in_it.node) ≡ Some reply → IsAnswered call.request.now.close reply in_it.reads.items d → Answers held shown call (Ok d)
    denied_answer reply d denies answers =
        answer_is_draft held shown call.request.now call.moment call.fresh reply in_it.reads.items d is.sound is_in.looked answers (λ parts t e possible of.
        let here = is_in.is_parent parts t possible.stands possible.agrees in (
          read_on t caller path,
          step t e.entry of.asks ∙ denied_is t e.entry path recursive caller (by_it e.entry of.asks) (node_of in_it.node) reply here.passes (dir_there parts t possible.stands possible.agrees) denies,
          λ id. ap (is_one_of id) here.read,
        ))

    module _ (lets : lacks caller 3 (parent path) (node_of in_it.node) ≡ None) where
      missing_acts : (parts : Parts) (t : Tree) → Stands parts t → Agrees shown parts → (e : Entry) → e.request ≡ call.request.now → at t path ≡ None
          → acts t e e.request.op ≡ reading (read_to t caller path) (refused PathNotFound)
      missing_acts parts t stands agrees e asks none =
          let here = is_in.is_parent parts t stands agrees in
          step t e asks ∙ missing_is t e path recursive caller (by_it e asks) (node_of in_it.node) here.passes (dir_there parts t stands agrees) lets none long_path

      found_acts : (parts : Parts) (t : Tree) → Stands parts t → Agrees shown parts → (e : Entry) → e.request ≡ call.request.now → (x : Node) → at t path ≡ Some x
          → acts t e e.request.op ≡ reading (read_to t caller path) (delete_node t e path recursive (node_of in_it.node) x)
      found_acts parts t stands agrees e asks x there =
          let here = is_in.is_parent parts t stands agrees in
          step t e asks ∙ found_is t e path recursive caller (by_it e asks) (node_of in_it.node) x here.passes (dir_there parts t stands agrees) lets there

      -- the node of the path is read
      pub node_needed : (n : Need) → IsNeedOfFind held shown caller path n → Answers held shown call (Err (stop.Need n))
      node_needed n before =
          read_need held shown call.request.now call.moment call.fresh n before.within before.asks before.lacks (λ parts t e possible of.
          let after = by_node parts t possible.stands possible.agrees e.entry of.asks (at t path) refl in (
            read_to t caller path,
            outcome_reads t e (read_to t caller path) after.0 after.1,
            before.needed parts t possible.stands possible.agrees,
          ))
        where
          by_node : (parts : Parts) (t : Tree) → Stands parts t → Agrees shown parts → (e : Entry) → e.request ≡ call.request.now → (o : Option Node) → at t path ≡ o
              → (after : Outcome) × (acts t e e.request.op ≡ reading (read_to t caller path) after)
          by_node parts t stands agrees e asks None none = (refused PathNotFound, missing_acts parts t stands agrees e asks none)
          by_node parts t stands agrees e asks (Some x) there = (delete_node t e path recursive (node_of in_it.node) x, found_acts parts t stands agrees e asks x there)

      -- nothing stands at the path
      pub missing_answer : (f : Find) (d : Draft) → IsLook held shown in_it.reads.items in_it.node in_it.name.now f → f.found ≡ found.Nothing → IsAnswered call.request.now.close (refusal PathNotFound) f.ids.items d
          → Answers held shown call (Ok d)
      missing_answer f d look nothing answers =
          let finds = look_finds held shown caller path in_it is_in f look in
          answer_is_draft held shown call.request.now call.moment call.fresh (refusal PathNotFound) f.ids.items d is.sound finds.1 answers (λ parts t e possible of.
          let find = finds.0 parts t possible.stands possible.agrees in
          let none : IsFound t caller path found.Nothing = subst (λ x. IsFound t caller path x) nothing find.found_is in (
            read_to t caller path,
            missing_acts parts t possible.stands possible.agrees e.entry of.asks none.1,
            λ id. ap (is_one_of id) find.read,
          ))

      -- the node was found
      pub target_found : (f : Find) (id : NodeId) (x : BareInode) → IsLook held shown in_it.reads.items in_it.node in_it.name.now f → f.found ≡ found.Node id x → (target : Target) → target.reads.items ≡ f.ids.items
          → target.base.id ≡ in_it.id → target.base.node ≡ in_it.node → target.name.now ≡ in_it.name.now → target.top.id ≡ id → target.top.node ≡ x → IsTarget held shown call target
      target_found f id x look same target reads base_id base_node name top_id top_node =
          let finds = look_finds held shown caller path in_it is_in f look in
          let seen : IsLookAs held shown in_it.reads.items in_it.node in_it.name.now f.ids.items (found.Node id x) =
          subst (λ o. IsLookAs held shown in_it.reads.items in_it.node in_it.name.now f.ids.items o) same look in
          record {
            named = is_in.named ∙ ap (λ n. parent path ++ n ∷ []) (sym name);
            looked = subst (λ (l : List NodeId). AreLookedAt held shown l) (sym reads) finds.1;
            top_looked = subst (λ (i : NodeId). IsHeldAndShown held shown i.0) (sym top_id) seen.2;
            allowed = ap (λ (y : BareInode). lacks caller 3 (parent path) (node_of y)) base_node ∙ lets;
            is_target = λ parts t stands agrees.
                let here = is_in.is_parent parts t stands agrees in
                let find = finds.0 parts t stands agrees in
                let node = node_found parts t caller path f id x find same in
                record {
                  passes = here.passes;
                  reads = ap (λ (l : List NodeId). numbers_of l) reads ∙ find.read;
                  stands_in = here.leads ∙ ap (λ (i : NodeId). Some i.0) (sym base_id);
                  directory = ap (λ (i : NodeId). inode_at parts i.0) base_id ∙ here.there ∙ ap Some (sym base_node);
                  leads = node.2.leads ∙ ap (λ (i : NodeId). Some i.0) (sym top_id);
                  there = ap (λ (i : NodeId). inode_at parts i.0) top_id ∙ node.2.there ∙ ap Some (sym top_node);
                };
          }

  -- ---- the node

  module _ (held : Held) (shown : Shown) (target : Target) (node : IsTarget held shown call target) where
    abbrev x : BareInode
    x = target.top.node

    node_at_path : (parts : Parts) (t : Tree) → Stands parts t → (p : Path) (id : ℕ) (y : BareInode) → follow parts 0 p ≡ Some id → inode_at parts id ≡ Some y → at t p ≡ Some (node_of y)
    node_at_path parts t stands p id y leads there =
        let place = (index_from_stands parts t stands).places p id leads in
        place.shows ∙ ap (λ (z : BareInode). Some (node_of z)) (same_Some place.inode y (sym place.found ∙ there))

    top_is : (parts : Parts) (t : Tree) → Stands parts t → Agrees shown parts → IsAt parts path target.top.id.0 target.top.node
    top_is parts t stands agrees = let here = node.is_target parts t stands agrees in record { leads = here.leads; there = here.there }

    pub is_top : IsTop shown path target.top
    is_top parts t stands agrees = top_is parts t stands agrees

    -- the questions by what the conditions say, the lease id and the moment, and whether there are children
    abbrev asking : Tree → Entry → Result Unit Unmet → Option ℕ → ℕ → Bool → Outcome
    asking t e c l m b =
        unless (or_else (is_guarded caller (node_of target.base.node) path (node_of x)) (or_else (unmet_for_change c) (or_else (refused_by_lease (lease_may_write (node_of x).lease l m)) (refuse_if (not recursive && b) DirectoryNotEmpty))))
        (cleared t e path recursive (subtree t path))

    -- the step asks the node these questions
    target_acts : (parts : Parts) (t : Tree) → Stands parts t → Agrees shown parts → (e : Entry) → e.request ≡ call.request.now → e.moment ≡ call.moment
        → acts t e e.request.op ≡ reading (read_to t caller path) (unless (refusal_of call recursive target.base.node target.top.node) (cleared t e path recursive (subtree t path)))
    target_acts parts t stands agrees e asks moment =
        let here = node.is_target parts t stands agrees in
        step t e asks
        ∙ found_is t e path recursive caller (by_it e asks) (node_of target.base.node) (node_of x) here.passes
        (node_at_path parts t stands (parent path) target.base.id.0 target.base.node here.stands_in here.directory) node.allowed
        (node_at_path parts t stands path target.top.id.0 x here.leads here.there)
        ∙ ap (reading (read_to t caller path))
        (node_is t e path recursive caller (by_it e asks) (node_of target.base.node) (node_of x)
        ∙ ap (λ (r : Request). asking t e (conditions_of r.cond (Some (stamps_of (node_of x)))) r.lease e.moment (is_directory (node_of x) && not (is_bare t path))) asks
        ∙ ap (λ m. asking t e (conditions_of call.request.now.cond (Some (stamps_of (node_of x)))) call.request.now.lease m (is_directory (node_of x) && not (is_bare t path))) moment
        ∙ ap (asking t e (conditions_of call.request.now.cond (Some (stamps_of (node_of x)))) call.request.now.lease call.moment)
        (children_there parts t stands path target.top.id.0 x (top_is parts t stands agrees) (has_children x) refl))

    target_reads : (parts : Parts) (t : Tree) → Stands parts t → Agrees shown parts → (id : ℕ) → is_one_of id (numbers_of target.reads.items) ≡ is_one_of id (ids_of parts (read_to t caller path))
    target_reads parts t stands agrees id = ap (is_one_of id) (node.is_target parts t stands agrees).reads

    -- the node is refused
    pub refused_answer : (reply : Reply) (d : Draft) → refusal_of call recursive target.base.node target.top.node ≡ Some reply → IsAnswered call.request.now.close reply target.reads.items d → Answers held shown call (Ok d)
    refused_answer reply d denies answers =
        answer_is_draft held shown call.request.now call.moment call.fresh reply target.reads.items d is.sound node.looked answers (λ parts t e possible of. (
          read_to t caller path,
          target_acts parts t possible.stands possible.agrees e.entry of.asks of.comes_at ∙ ap (λ r. reading (read_to t caller path) (unless r (cleared t e.entry path recursive (subtree t path)))) denies,
          target_reads parts t possible.stands possible.agrees,
        ))

    module _ (lets : refusal_of call recursive target.base.node target.top.node ≡ None) where
      -- it isn't, and the call isn't recursive: the node alone goes
      alone_acts : (r : Bool) → recursive ≡ r → r ≡ false → (parts : Parts) (t : Tree) → Stands parts t → Agrees shown parts → (e : Entry) → e.request ≡ call.request.now → e.moment ≡ call.moment
          → acts t e e.request.op ≡ reading (read_to t caller path) (gone (parent path) (subtree t path))
      alone_acts r same plain parts t stands agrees e asks moment =
          target_acts parts t stands agrees e asks moment ∙ ap (λ o. reading (read_to t caller path) (unless o (cleared t e path recursive (subtree t path)))) lets
          ∙ ap (λ b. reading (read_to t caller path) (cleared t e path b (subtree t path))) (same ∙ plain)

      bare : recursive ≡ false → has_children x ≡ false
      bare plain = by_test (has_children x) refl (rest_none (refused_by_lease (lease_may_write (node_of target.top.node).lease call.request.now.lease call.moment)) _
          (rest_none (unmet_for_change (conditions_of call.request.now.cond (Some (stamps_of (node_of target.top.node))))) _
          (rest_none (is_guarded call.caller.now (node_of target.base.node) call.path.now (node_of target.top.node)) _ lets)))
        where
          by_test : (b : Bool) → has_children x ≡ b → refuse_if (not recursive && has_children x) DirectoryNotEmpty ≡ None → has_children x ≡ false
          by_test false e k = e
          by_test true e k =
              let is_refused = sym (ap (λ b. refuse_if (not b && has_children x) DirectoryNotEmpty) plain ∙ ap (λ h. refuse_if (not false && h) DirectoryNotEmpty) e) ∙ k in
              absurd (false≢true (sym (ap is_some is_refused)))

      pub alone : recursive ≡ false → (removal : Removal) → removal.base ≡ target.base.id → removal.name ≡ target.name.now → removal.taken.items ≡ target.top.id ∷ []
          → IsRemovalOf shown call target.reads.items removal (success 200 [])
      alone plain removal base name taken e asks moment = record {
        named = node.named ∙ ap (λ n. parent path ++ n ∷ []) (sym name);
        is_removal = λ parts t stands agrees.
            let here = node.is_target parts t stands agrees in
            record {
              paths = read_to t caller path ++ [];
              acts_so = alone_acts recursive refl plain parts t stands agrees e asks moment;
              reads_are = λ id. target_reads parts t stands agrees id ∙ ap (λ (l : List Path). is_one_of id (ids_of parts l)) (sym (append-nil (read_to t caller path)));
              stands_in = here.stands_in ∙ ap (λ (i : NodeId). Some i.0) (sym base);
              there = ap is_some (node_at_path parts t stands path target.top.id.0 x here.leads here.there);
              takes = λ id. ap (λ (l : List NodeId). is_one_of id (numbers_of l)) taken
                  ∙ ap (is_one_of id) (sym (alone_ids parts t stands path target.top.id.0 x (top_is parts t stands agrees) (bare plain)));
            };
      }

      -- ---- all that stands below it too

      module _ (deep : recursive ≡ true) where
        clear_acts : (parts : Parts) (t : Tree) → Stands parts t → Agrees shown parts → (e : Entry) → e.request ≡ call.request.now → e.moment ≡ call.moment → acts t e e.request.op
            ≡ reading (read_to t caller path) (reading (subtree t path) (unless (first_refusal (not_clearable t caller) t (subtree t path)) (gone (parent path) (subtree t path))))
        clear_acts parts t stands agrees e asks moment =
            target_acts parts t stands agrees e asks moment
            ∙ ap (λ o. reading (read_to t caller path) (unless o (cleared t e path recursive (subtree t path)))) lets
            ∙ ap (λ b. reading (read_to t caller path) (cleared t e path b (subtree t path))) deep
            ∙ ap (λ c. reading (read_to t caller path) (reading (subtree t path) (unless (first_refusal (not_clearable t c) t (subtree t path)) (gone (parent path) (subtree t path))))) (by_it e asks)

        -- a stripe in which a node below lies is needed
        pub below_needed : (n : Need) → NeedsSubtree held shown path n → Answers held shown call (Err (stop.Need n))
        below_needed n needs =
            read_need held shown call.request.now call.moment call.fresh n needs.within needs.asks needs.lacks (λ parts t e possible of.
            let one = needs.needed parts t possible.stands possible.agrees in
            let key = keys_among t (is_below path) one.0 one.1.1.0 in
            let here : Among one.0 (subtree t path) = among_keys t (is_prefix path) one.0 key.1 (both _ _ key.0).0 in
            let id : id_at parts one.0 ≡ Some one.1.0 = short_id parts one.0 (reached_short parts t possible.stands one.0 one.1.0 one.1.1.1.0) ∙ one.1.1.1.0 in
            let all = among_right one.0 (read_to t caller path) (subtree t path) here in (
              read_to t caller path ++ subtree t path,
              outcome_reads t e (read_to t caller path ++ subtree t path) (unless (first_refusal (not_clearable t caller) t (subtree t path)) (gone (parent path) (subtree t path)))
                  (clear_acts parts t possible.stands possible.agrees e.entry of.asks of.comes_at ∙ reading_both (read_to t caller path) (subtree t path) _),
              one_lies n.stripe one.1.0 (ids_of parts (read_to t caller path ++ subtree t path))
                  (one_has (known parts (read_to t caller path ++ subtree t path)) (one.0, one.1.0) (known_has parts (read_to t caller path ++ subtree t path) one.0 one.1.0 all id)) (sym one.1.1.1.1),
            ))

        module _ (c : Cleared) (clears : IsCleared held shown caller path c) (reads : List NodeId) (reads_are : reads ≡ target.reads.items ++ c.taken.items) where
          pub all_looked : AreLookedAt held shown reads
          all_looked = subst (λ (l : List NodeId). AreLookedAt held shown l) (sym reads_are) (looked_both held shown target.reads.items c.taken.items node.looked clears.looked)

          all_reads : (parts : Parts) (t : Tree) → Stands parts t → Agrees shown parts → (id : ℕ) → is_one_of id (numbers_of reads) ≡ is_one_of id (ids_of parts (read_to t caller path ++ subtree t path))
          all_reads parts t stands agrees id =
              ap (λ (l : List NodeId). is_one_of id (numbers_of l)) reads_are ∙ both_lists id target.reads.items c.taken.items
              ∙ ap (λ b. b || is_one_of id (numbers_of c.taken.items)) (target_reads parts t stands agrees id)
              ∙ ap (λ (l : List ℕ). is_one_of id (ids_of parts (read_to t caller path)) || is_one_of id l) (clears.ids parts t stands agrees)
              ∙ sym (ap (is_one_of id) (ids_of_append parts (read_to t caller path) (subtree t path)) ∙ one_of_append id (ids_of parts (read_to t caller path)) (ids_of parts (subtree t path)))

          says_acts : (o : Option Reply) → c.refused ≡ o → (parts : Parts) (t : Tree) → Stands parts t → Agrees shown parts → (e : Entry) → e.request ≡ call.request.now → e.moment ≡ call.moment
              → acts t e e.request.op ≡ reading (read_to t caller path ++ subtree t path) (unless o (gone (parent path) (subtree t path)))
          says_acts o same parts t stands agrees e asks moment =
              clear_acts parts t stands agrees e asks moment
              ∙ ap (λ r. reading (read_to t caller path) (reading (subtree t path) (unless r (gone (parent path) (subtree t path))))) (sym (clears.says parts t stands agrees) ∙ same)
              ∙ reading_both (read_to t caller path) (subtree t path) (unless o (gone (parent path) (subtree t path)))

          -- one of them is refused
          pub below_answer : (reply : Reply) (d : Draft) → c.refused ≡ Some reply → IsAnswered call.request.now.close reply reads d → Answers held shown call (Ok d)
          below_answer reply d denies answers =
              answer_is_draft held shown call.request.now call.moment call.fresh reply reads d is.sound all_looked answers (λ parts t e possible of. (
                read_to t caller path ++ subtree t path,
                says_acts (Some reply) denies parts t possible.stands possible.agrees e.entry of.asks of.comes_at,
                all_reads parts t possible.stands possible.agrees,
              ))

          -- all of it goes
          pub all_below : c.refused ≡ None → (removal : Removal) → removal.base ≡ target.base.id → removal.name ≡ target.name.now → removal.taken.items ≡ c.taken.items → IsRemovalOf shown call reads removal (success 200 [])
          all_below none removal base name taken e asks moment = record {
            named = node.named ∙ ap (λ n. parent path ++ n ∷ []) (sym name);
            is_removal = λ parts t stands agrees.
                let here = node.is_target parts t stands agrees in
                record {
                  paths = (read_to t caller path ++ subtree t path) ++ [];
                  acts_so = says_acts None none parts t stands agrees e asks moment;
                  reads_are = λ id. all_reads parts t stands agrees id ∙ ap (λ (l : List Path). is_one_of id (ids_of parts l)) (sym (append-nil (read_to t caller path ++ subtree t path)));
                  stands_in = here.stands_in ∙ ap (λ (i : NodeId). Some i.0) (sym base);
                  there = ap is_some (node_at_path parts t stands path target.top.id.0 x here.leads here.there);
                  takes = λ id. ap (λ (l : List NodeId). is_one_of id (numbers_of l)) taken ∙ ap (is_one_of id) (clears.ids parts t stands agrees);
                };
          }

-- a node that was found is so at a later view too
pub target_later : {O : Type 0} {held later : Held} {over over_later : O} {shown shown_later : Shown} → GoesOn held later over over_later shown shown_later → (call : Call) (target : Target)
    → IsTarget held shown call target → IsTarget later shown_later call target
target_later on call target is = record {
  named = is.named;
  is_target = λ parts t stands agrees. is.is_target parts t stands (agrees_earlier on parts agrees);
  looked = looked_later on target.reads.items is.looked;
  top_looked = top_later on target.top.id is.top_looked;
  allowed = is.allowed;
}
