-- What the answers of a batch owe: on the way, where nothing is found, at the node, and by the batch that was run.
use Rattle.std.proofs.Common.{◌≡◌, ◌≢◌, ◌⊎◌, inl, inr, ℕ, ◌==◌, ◌≤◌, Bool, true, false, ◌||◌, ◌&&◌, List, [], ◌∷◌, ◌++◌, length, map, take, slice_get, Option, Some, None, is_some, unwrap_or, Result, Ok, Err, refl, sym, ap, subst, ◌∙◌, append_assoc, arith}
use Rattle.std.specs.Prelude.{IfSome}
use Rattle.std.proofs.lemmas.Bool.{false≢true}
use Rattle.std.proofs.Math.Logic.{∥∥₁_elim}
use Rattle.std.specs.Cmp.{unsigned_Decides}
use mathlib.Core.HLevel.{⊥_prop}
use Rattle.acl_text.specs.declared.acl.AclPair.{AclPair}
use Rattle.body_text.specs.Told.{IsCountOf}
use Rattle.serde_json.specs.View.{items_view}
use Rattle.path_text.specs.Paths.{is_prefix}
use Rattle.path_text.specs.Tokens.{is_on_page}
use Rattle.namespace_model.specs.declared.caller.Caller.{Caller}
use Rattle.namespace_model.specs.declared.code.Code.{Code}
use Rattle.namespace_model.specs.declared.op.BatchChange.{BatchChange}
use Rattle.namespace_model.specs.declared.op.Op.TheVariants as op
use Rattle.namespace_model.specs.declared.reply.Reply.{Reply}
use Rattle.namespace_model.specs.declared.request.Entry.{Entry}
use Rattle.namespace_model.specs.declared.request.Request.{Request}
use Rattle.namespace_model.specs.Effects.{Put, stamp}
use Rattle.namespace_model.specs.Locality.{Among}
use Rattle.namespace_model.specs.Looks as looks
use Rattle.namespace_model.specs.Nodes.{Node}
use Rattle.namespace_model.specs.Outcomes.{Outcome, answered, once, reading, touched}
use Rattle.namespace_model.specs.Pages.{is_above, on_the_way}
use Rattle.namespace_model.specs.Refusals.{caller_of, nobody}
use Rattle.namespace_model.specs.Replies.{page_fields, with_body}
use Rattle.namespace_model.specs.SetAccessRecursive.{Batch, Failure, batch_below, batch_body, batch_of, batch_page, batched, set_access_recursive}
use Rattle.namespace_model.specs.Sound.{IsOperation, IsTokenOf}
use Rattle.namespace_model.specs.Step.{acts, outcome}
use Rattle.namespace_model.specs.Trees.{Path, Tree, at, is_below, subtree}
use Rattle.namespace_model.specs.Ways.{reached, way_of, read_on}
use Rattle.namespace_model.proofs.Alikeness.{among_left, among_right}
use Rattle.namespace_model.proofs.Lookups.{keys_among}
use Rattle.namespace_model.proofs.PageOrder.{Ascends, filter_ascends, keys_ascend}
use Rattle.namespace_model.proofs.Prefixes.{both, behind_front, front_of_append}
use Rattle.namespace_model.proofs.StepLocality.{among_once}
use Rattle.namespace_model.proofs.WayLemmas.{reading_both}
use Rattle.inode_tree.specs.declared.draft.Draft.{Draft}
use Rattle.inode_tree.specs.declared.draft.EvalStop.TheVariants as stop
use Rattle.inode_tree.specs.declared.id.NodeId.{NodeId}
use Rattle.inode_tree.specs.declared.need.Need.{Need}
use Rattle.inode_tree.specs.After.{known, with_id}
use Rattle.inode_tree.specs.Footprints.{ids_of}
use Rattle.inode_tree.specs.Inodes.{BareInode, node_of}
use Rattle.inode_tree.specs.Parts.{Parts, follow}
use Rattle.inode_tree.specs.Promises.{numbers_of, is_one_of}
use Rattle.inode_tree.specs.Stands.{Stands}
use Rattle.inode_tree.specs.Views.{Held, Shown, Agrees, Agreeing}
use Rattle.inode_tree.proofs.FrameLemmas.{short_id}
use Rattle.inode_tree.proofs.IndexLemmas.{reached_short}
use Rattle.inode_tree.proofs.PairLemmas.{known_has}
use Rattle.path_walk.specs.declared.call.Call.{Call}
use Rattle.path_walk.specs.declared.find.Find.{Find}
use Rattle.path_walk.specs.declared.find.Found.{Found}
use Rattle.path_walk.specs.declared.find.Found.TheVariants as found
use Rattle.path_walk.specs.Answers.{IsAnswered, found_outcome}
use Rattle.path_walk.specs.Batches.{edited_all, paths_in as put_paths, puts_by}
use Rattle.path_walk.specs.Calls.{IsCall, Answers, GoesOn}
use Rattle.path_walk.specs.Finds.{read_to, last_read, IsFindFor, IsNeedOfFind}
use Rattle.path_walk.specs.Settles.{IsBatchOf}
use Rattle.path_walk.specs.Visits.{AreLookedAt, IsHeldAndShown}
use Rattle.path_walk.proofs.AnswerLemmas.{read_need, outcome_reads}
use Rattle.path_walk.proofs.BatchLemmas.{EachIsPut, puts_ascending}
use Rattle.path_walk.proofs.CallLemmas.{agrees_earlier, looked_later}
use Rattle.path_walk.proofs.EditLemmas.{meta_leaves}
use Rattle.path_walk.proofs.FindLemmas.{node_found, ids_of_append}
use Rattle.path_walk.proofs.CallAnswers.{found_answer, found_lacks}
use Rattle.path_walk.proofs.LookAnswers as look
use Rattle.path_walk.proofs.ReadLemmas.{or_tells}
use Rattle.path_walk.proofs.TouchLemmas.{among_either}
use Rattle.path_walk.proofs.SetLemmas.{one_has, one_lies}
use Rattle.path_walk.proofs.TouchLemmas.{touched_need}
use Rattle.path_walk.proofs.TrailLemmas.{one_of_append, numbers-append}
use Rattle.path_order.specs.declared.cursor.Seen.{Seen}
use Rattle.path_order.specs.Cursors.{IsAt}
use Rattle.path_order.specs.PagesBelow.{ids_in, AreHeld, AreNodesOf}
use Rattle.path_order.specs.Starts.{NeedsOnTheWay}
use Rattle.path_order.proofs.NodeIds.{nodes_ids}
use Rattle.path_order.proofs.PageLemmas.{held_grows, last_page}
use Rattle.path_order.proofs.TokenLemmas.{none_among}
use Rattle.path_order.proofs.SubtreeLists.{subtree_way}
use Rattle.path_order.proofs.WholeLemmas.{looked_ids}
use Rattle.acl_recursive.specs.declared.asked.Asked.{Asked}
use Rattle.acl_recursive.specs.declared.eval.Target.{Target}
use Rattle.acl_recursive.specs.declared.run.Run.{Run}
use Rattle.acl_recursive.specs.declared.walk.Step.{Step}
use Rattle.acl_recursive.specs.Batched.{Turns, batch_by, edit_of, edits_of, failed_node, failed_nodes, failure_of, failures_of, nodes_behind, nodes_in, path_in, paths_in, turns_of, IsAsked, IsBeginning, IsRead, IsRun, IsTally, IsTarget, NeedsOfBatch}
use Rattle.acl_recursive.proofs.RunLemmas.{run_in}

or_false : (a : Bool) → a ≡ (a || false)
or_false true = refl
or_false false = refl

-- what is known by another need not be asked again
drop_known : (a b c : Bool) → (c ≡ true → a ≡ true) → (a || (c || b)) ≡ (a || b)
drop_known a b true h = ap (λ x. x || true) (h refl) ∙ sym (ap (λ x. x || b) (h refl))
drop_known a b false h = refl

in_batch : (p : Path) (a b c d : List Path) → Among p (c ++ d) → Among p ((a ++ (b ++ c)) ++ d)
in_batch p a b c d h = elim (among_either p c d h) [
  | inl k ↦ among_left p (a ++ (b ++ c)) d (among_right p a (b ++ c) (among_right p b c k))
  | inr k ↦ among_right p (a ++ (b ++ c)) d k
]

-- what the step touches is touched, each path once
touched_outcome : (t : Tree) (e : Entry) (p : Path) → Among p (touched (acts t e e.request.op)) → Among p (touched (outcome t e))
unfolding outcome
touched_outcome t e p h = elim (among_either p (acts t e e.request.op).read (acts t e e.request.op).written h) [
  | inl k ↦ among_left p (once (acts t e e.request.op).read) (once (acts t e e.request.op).written) (among_once p (acts t e e.request.op).read k)
  | inr k ↦ among_right p (once (acts t e e.request.op).read) (once (acts t e e.request.op).written) (among_once p (acts t e e.request.op).written k)
]

-- ---- what is put

module _ (turns : Turns) (moment : ℕ) (dir : Path) where
  -- the paths that are put are among the rows' paths
  put_among : (rows : List Step) (q : Path) → Among q (put_paths (puts_by (edits_of turns moment dir rows))) → Among q (paths_in dir rows)
  put_among [] q h = h
  put_among (r ∷ rows) q h = by_turn (turns (node_of r.seen.node)) h (put_among rows q)
    where
      by_turn : (k : Result AclPair Code) → Among q (put_paths (puts_by (edit_of k moment (path_in dir r) r.seen ++ edits_of turns moment dir rows)))
          → (Among q (put_paths (puts_by (edits_of turns moment dir rows))) → Among q (paths_in dir rows)) → Among q (paths_in dir (r ∷ rows))
      by_turn (Ok pair) (inl e) more = inl e
      by_turn (Ok pair) (inr m) more = inr (more m)
      by_turn (Err code) m more = inr (more m)

  puts_ascend : (rows : List Step) → Ascends (paths_in dir rows) → Ascends (put_paths (puts_by (edits_of turns moment dir rows)))
  puts_ascend [] up = tt
  puts_ascend (r ∷ rows) up = by_turn (turns (node_of r.seen.node)) (puts_ascend rows up.1)
    where
      by_turn : (k : Result AclPair Code) → Ascends (put_paths (puts_by (edits_of turns moment dir rows))) → Ascends (put_paths (puts_by (edit_of k moment (path_in dir r) r.seen ++ edits_of turns moment dir rows)))
      by_turn (Ok pair) more = ((λ q h. up.0 q (put_among rows q h)), more)
      by_turn (Err code) more = more

  each_put : (parts : Parts) (t : Tree) (rows : List Step) → AreNodesOf parts t (paths_in dir rows) (nodes_in rows) → EachIsPut parts (edits_of turns moment dir rows)
  each_put parts t [] are = tt
  each_put parts t (r ∷ rows) are = by_turn (turns (node_of r.seen.node)) (each_put parts t rows are.1)
    where
      by_turn : (k : Result AclPair Code) → EachIsPut parts (edits_of turns moment dir rows) → EachIsPut parts (edit_of k moment (path_in dir r) r.seen ++ edits_of turns moment dir rows)
      by_turn (Ok pair) more = (
        record {
          leads = are.0.leads;
          there = are.0.there;
          leaves = meta_leaves r.seen.node (record r.seen.node.meta { acl = pair; moment = moment }) (stamp moment (record (node_of r.seen.node) { acl = pair })) refl refl;
        },
        more,
      )
      by_turn (Err code) more = more

  -- ---- what failed

  failed_are : (parts : Parts) (t : Tree) (rows : List Step) → AreNodesOf parts t (paths_in dir rows) (nodes_in rows) → AreNodesOf parts t (map (λ (f : Failure). f.path) (failures_of turns dir rows)) (failed_nodes turns rows)
  failed_are parts t [] are = tt
  failed_are parts t (r ∷ rows) are = by_turn (turns (node_of r.seen.node)) (failed_are parts t rows are.1)
    where
      by_turn : (k : Result AclPair Code) → AreNodesOf parts t (map (λ (f : Failure). f.path) (failures_of turns dir rows)) (failed_nodes turns rows)
          → AreNodesOf parts t (map (λ (f : Failure). f.path) (failure_of k (path_in dir r) r.seen ++ failures_of turns dir rows)) (failed_node k r.seen ++ failed_nodes turns rows)
      by_turn (Ok pair) more = more
      by_turn (Err code) more = (are.0, more)

failed_held : (turns : Turns) (held : Held) (shown : Shown) (rows : List Step) → AreHeld held shown (nodes_in rows) → AreHeld held shown (failed_nodes turns rows)
failed_held turns held shown [] are = tt
failed_held turns held shown (r ∷ rows) are = by_turn (turns (node_of r.seen.node)) (failed_held turns held shown rows are.1)
  where
    by_turn : (k : Result AclPair Code) → AreHeld held shown (failed_nodes turns rows) → AreHeld held shown (failed_node k r.seen ++ failed_nodes turns rows)
    by_turn (Ok pair) more = more
    by_turn (Err code) more = (are.0, more)

front_ascends : (ps rest : List Path) → Ascends (ps ++ rest) → Ascends ps
front_ascends [] rest up = tt
front_ascends (p ∷ ps) rest up = ((λ q h. up.0 q (among_left q ps rest h)), front_ascends ps rest up.1)

behind_ascends : (t : Tree) (dir : Path) (token : Option Path) → Ascends (nodes_behind t dir token)
behind_ascends t dir None = keys_ascend t (is_prefix dir)
behind_ascends t dir (Some token) = filter_ascends (is_above token) (subtree t dir) (keys_ascend t (is_prefix dir))

-- ---- the way to the token

-- the path itself may be on the way to the token; it was read before
way_is : (t : Tree) (dir : Path) (token : Option Path) → is_some (at t dir) ≡ true → (on_the_way t (is_prefix dir) token ≡ dir ∷ on_the_way t (is_below dir) token) ⊎ (on_the_way t (is_prefix dir) token ≡ on_the_way t (is_below dir) token)
way_is t dir None there = inr refl
way_is t dir (Some token) there = by_front (is_prefix dir token) refl
  where
    none_of : (test : Path → Bool) → is_prefix dir token ≡ false → ((q : Path) → test q ≡ true → is_prefix dir q ≡ true) → on_the_way t test (Some token) ≡ []
    none_of test apart fronts = none_among (on_the_way t test (Some token)) (λ q h.
        let tests = both (test q) (is_prefix q token) (keys_among t (λ r. test r && is_prefix r token) q h).0 in
        let first = behind_front dir q (fronts q tests.0) in
        let then = behind_front q token tests.1 in
        false≢true (sym apart ∙ ap (is_prefix dir) (then.1 ∙ ap (λ r. r ++ then.0) first.1 ∙ append_assoc dir first.0 then.0) ∙ front_of_append dir (first.0 ++ then.0)))

    by_front : (b : Bool) → is_prefix dir token ≡ b → (on_the_way t (is_prefix dir) (Some token) ≡ dir ∷ on_the_way t (is_below dir) (Some token)) ⊎ (on_the_way t (is_prefix dir) (Some token) ≡ on_the_way t (is_below dir) (Some token))
    by_front true front = inl (subtree_way t dir token there front)
    by_front false apart = inr (none_of (is_prefix dir) apart (λ q h. h) ∙ sym (none_of (is_below dir) apart (λ q h. (both _ _ h).0)))

step_is : (t : Tree) (e : Entry) (path : Path) (change : BatchChange) (token : Option Path) (max : ℕ) (force : Bool)
    → acts t e (op.SetAccessRecursive path change token max force) ≡ looks.found t e path (batch_below t e path change token force (batch_page t path token max))
unfolding set_access_recursive
step_is t e path change token max force = refl

module _ (call : Call) (is : IsCall call) (asked : Asked) (asks_for : IsAsked call asked) where
  abbrev path : Path
  path = call.path.now

  abbrev caller : Caller
  caller = call.caller.now

  abbrev token : Option Path
  token = asked.token.now

  abbrev some_of : Tree → Entry → Node → Outcome
  some_of t e = batch_below t e path asked.change.now token asked.force (batch_page t path token asked.max)

  step : (t : Tree) (e : Entry) → e.request ≡ call.request.now → acts t e e.request.op ≡ looks.found t e path (some_of t e)
  step t e asks = ap (λ (r : Request). acts t e r.op) asks ∙ ap (acts t e) asks_for.operation ∙ step_is t e path asked.change.now token asked.max asked.force

  by_it : (e : Entry) → e.request ≡ call.request.now → caller_of e ≡ caller
  by_it e asks = ap (λ (r : Request). unwrap_or r.caller nobody) asks ∙ ap (λ c. unwrap_or c nobody) is.by

  sound_batch : IsOperation (op.SetAccessRecursive path asked.change.now token asked.max asked.force) (length call.request.now.body)
  sound_batch = subst (λ o. IsOperation o (length call.request.now.body)) asks_for.operation is.sound.operation

  pub some_path : path ≢ []
  some_path e = absurd (let l = sound_batch.0.parts in let k : length path ≡ 0 = ap (λ (p : Path). length p) e in omega (arith, l, k))

  pub some_max : 1 ≤ asked.max
  some_max = sound_batch.2.some

  pub few : asked.max ≤ 2000
  few = sound_batch.2.within

  pub token_of_page : IfSome token (λ k. is_prefix (take 1 path) k ≡ true)
  token_of_page = by_token token sound_batch.3
    where
      by_token : (o : Option Path) → IfSome o (IsTokenOf path) → IfSome o (λ k. is_prefix (take 1 path) k ≡ true)
      by_token None h = tt
      by_token (Some k) h = h.filesystem

  -- ---- what was found

  -- no node was found
  pub lost_answer : (held : Held) (shown : Shown) (f : Find) (other : Found) (reply : Reply) (d : Draft) → IsFindFor shown caller path f → AreLookedAt held shown f.ids.items → f.found ≡ other
      → IsAnswered call.request.now.close reply f.ids.items d → ((some : Node → Outcome) → found_outcome path some other ≡ answered reply) → Answers held shown call (Ok d)
  lost_answer held shown f other reply d finds looked same answers says =
      found_answer held shown call some_of f reply d is step finds looked answers (λ t e asks comes. ap (λ o. found_outcome path (some_of t e) o) same ∙ says (some_of t e))

  -- a stripe on the way to the node isn't held
  pub find_needed : (held : Held) (shown : Shown) (n : Need) → IsNeedOfFind held shown caller path n → Answers held shown call (Err (stop.Need n))
  find_needed held shown n needs = found_lacks held shown call some_of n is step needs

  -- the id of a node that was found is one of those that were read
  id_read : (parts : Parts) (t : Tree) → Stands parts t → (id : ℕ) (x : Node) → way_of t caller path ≡ reached → at t path ≡ Some x → follow parts 0 path ≡ Some id → is_one_of id (ids_of parts (read_to t caller path)) ≡ true
  id_read parts t stands id x passes there leads =
      one_has (known parts (read_to t caller path)) (path, id)
      (known_has parts (read_to t caller path) path id
      (subst (λ l. Among path (read_on t caller path ++ l)) (sym (ap (λ w. last_read w path (at t path)) passes ∙ ap (last_read reached path) there)) (among_right path (read_on t caller path) (path ∷ []) (inl refl)))
      (short_id parts path (reached_short parts t stands path id leads) ∙ leads))

  -- the node was found
  pub target_found : (held : Held) (shown : Shown) (f : Find) (id : NodeId) (x : BareInode) (target : Target) → ∥ Agreeing shown ∥₁ → IsFindFor shown caller path f → AreLookedAt held shown f.ids.items → f.found ≡ found.Node id x
      → target.reads.items ≡ f.ids.items → target.top ≡ record { id = id; node = x } → IsTarget held shown call target
  target_found held shown f id x target some finds looked same reads top = record {
    is_target = λ parts t stands agrees.
        let find = finds parts t stands agrees in
        let here = node_found parts t caller path f id x find same in
        record {
          passes = here.0;
          shows = here.1 ∙ ap (λ (s : Seen). Some (node_of s.node)) (sym top);
          reads = ap (λ (l : List NodeId). numbers_of l) reads ∙ find.read;
        };
    top = (
      λ parts t stands agrees.
          let find = finds parts t stands agrees in
          let here = node_found parts t caller path f id x find same in
          subst (λ (s : Seen). IsAt parts path s.id.0 s.node) (sym top) (record { leads = here.2.leads; there = here.2.there }),
      subst (λ (s : Seen). IsHeldAndShown held shown s.id.0) (sym top) (looked id.0 (by_test (is_one_of id.0 (numbers_of f.ids.items)) refl)),
    );
    looked = subst (λ (l : List NodeId). AreLookedAt held shown l) (sym reads) looked;
  }
    where
      by_test : (b : Bool) → is_one_of id.0 (numbers_of f.ids.items) ≡ b → is_one_of id.0 (numbers_of f.ids.items) ≡ true
      by_test true e = e
      by_test false e = absurd (∥∥₁_elim some ⊥_prop (λ a.
          let find = finds a.parts a.tree a.stands a.agrees in
          let here = node_found a.parts a.tree caller path f id x find same in
          false≢true (sym e ∙ ap (is_one_of id.0) find.read ∙ id_read a.parts a.tree a.stands id.0 (node_of x) here.0 here.1 here.2.leads)))

  -- ---- what was read

  module _ (held : Held) (shown : Shown) (target : Target) (found_it : IsTarget held shown call target) where
    way_ids : (parts : Parts) (t : Tree) → Stands parts t → Agrees shown parts → (id : ℕ)
        → (is_one_of id (ids_of parts (read_to t caller path)) || is_one_of id (ids_of parts (on_the_way t (is_below path) token))) ≡ is_one_of id (ids_of parts (read_to t caller path ++ on_the_way t (is_prefix path) token))
    way_ids parts t stands agrees id =
        let here = found_it.is_target parts t stands agrees in
        elim (way_is t path token (ap is_some here.shows)) [
          | inl e ↦
              sym (ap (λ l. is_one_of id (ids_of parts (read_to t caller path ++ l))) e
              ∙ ap (is_one_of id) (ids_of_append parts (read_to t caller path) (path ∷ on_the_way t (is_below path) token))
              ∙ one_of_append id (ids_of parts (read_to t caller path)) (ids_of parts (path ∷ on_the_way t (is_below path) token))
              ∙ first_known parts t stands id here.passes here.shows (found_it.top.0 parts t stands agrees).leads)
          | inr e ↦
              sym (ap (λ l. is_one_of id (ids_of parts (read_to t caller path ++ l))) e
              ∙ ap (is_one_of id) (ids_of_append parts (read_to t caller path) (on_the_way t (is_below path) token))
              ∙ one_of_append id (ids_of parts (read_to t caller path)) (ids_of parts (on_the_way t (is_below path) token)))
        ]
      where
        first_known : (parts : Parts) (t : Tree) → Stands parts t → (id : ℕ) → way_of t caller path ≡ reached → at t path ≡ Some (node_of target.top.node) → follow parts 0 path ≡ Some target.top.id.0
            → (is_one_of id (ids_of parts (read_to t caller path)) || is_one_of id (ids_of parts (path ∷ on_the_way t (is_below path) token)))
            ≡ (is_one_of id (ids_of parts (read_to t caller path)) || is_one_of id (ids_of parts (on_the_way t (is_below path) token)))
        first_known parts t stands id passes there leads =
            ap (λ l. is_one_of id (ids_of parts (read_to t caller path)) || is_one_of id l)
            (ap (λ o. map (λ (x : Path × ℕ). x.1) (with_id path o ++ known parts (on_the_way t (is_below path) token))) (short_id parts path (reached_short parts t stands path target.top.id.0 leads) ∙ leads))
            ∙ drop_known (is_one_of id (ids_of parts (read_to t caller path))) (is_one_of id (ids_of parts (on_the_way t (is_below path) token))) (target.top.id.0 == id)
            (λ same. subst (λ i. is_one_of i (ids_of parts (read_to t caller path)) ≡ true) ((unsigned_Decides target.top.id.0 id).0 same) (id_read parts t stands target.top.id.0 (node_of target.top.node) passes there leads))

    pub read_none : IsBeginning held shown path token None → IsRead held shown call token target.reads.items
    read_none none = record {
      is_read = λ parts t stands agrees.
          let here = found_it.is_target parts t stands agrees in
          record {
            passes = here.passes;
            shows = (node_of target.top.node, here.shows);
            read = λ id.
                ap (is_one_of id) here.reads ∙ or_false (is_one_of id (ids_of parts (read_to t caller path)))
                ∙ ap (λ l. is_one_of id (ids_of parts (read_to t caller path)) || is_one_of id (ids_of parts l)) (sym (none parts t stands agrees).1)
                ∙ way_ids parts t stands agrees id;
          };
      looked = found_it.looked;
    }

    pub read_way : (way : List Seen) (reads : List NodeId) → ((parts : Parts) (t : Tree) → Stands parts t → Agrees shown parts → AreNodesOf parts t (on_the_way t (is_below path) token) way) → AreHeld held shown way
        → numbers_of reads ≡ numbers_of target.reads.items ++ ids_in way → IsRead held shown call token reads
    read_way way reads are held_so these = record {
      is_read = λ parts t stands agrees.
          let here = found_it.is_target parts t stands agrees in
          record {
            passes = here.passes;
            shows = (node_of target.top.node, here.shows);
            read = λ id.
                ap (is_one_of id) these ∙ one_of_append id (numbers_of target.reads.items) (ids_in way)
                ∙ ap (λ l. is_one_of id l || is_one_of id (ids_in way)) here.reads
                ∙ ap (λ l. is_one_of id (ids_of parts (read_to t caller path)) || is_one_of id l) (sym (nodes_ids parts t stands (on_the_way t (is_below path) token) way (are parts t stands agrees)))
                ∙ way_ids parts t stands agrees id;
          };
      looked = λ id h. elim (or_tells _ _ (sym (ap (is_one_of id) these ∙ one_of_append id (numbers_of target.reads.items) (ids_in way)) ∙ h)) [
        | inl k ↦ found_it.looked id k
        | inr k ↦ looked_ids held shown way held_so id k
      ];
    }

    -- ---- a stripe of the way to the token

    -- the step of the node that was found
    target_acts : (parts : Parts) (t : Tree) → Stands parts t → Agrees shown parts → (e : Entry) → e.request ≡ call.request.now → acts t e e.request.op ≡ reading (read_to t caller path) (some_of t e (node_of target.top.node))
    target_acts parts t stands agrees e asks =
        let here = found_it.is_target parts t stands agrees in
        step t e asks ∙ look.node_is t e path (some_of t e) caller (by_it e asks) (node_of target.top.node) here.passes here.shows

    pub way_needed : (n : Need) → NeedsOnTheWay held shown path token n → Answers held shown call (Err (stop.Need n))
    way_needed n needs =
        read_need held shown call.request.now call.moment call.fresh n needs.within needs.asks needs.lacks (λ parts t e possible of.
        let here = found_it.is_target parts t possible.stands possible.agrees in
        let one = needs.needed parts t possible.stands possible.agrees in
        let way = on_the_way t (is_prefix path) token in
        let b = batch_of t e.entry asked.change.now asked.force (batch_page t path token asked.max).paths in
        let on_way : Among one.0 way = elim (way_is t path token (ap is_some here.shows)) [
          | inl f ↦ subst (λ l. Among one.0 l) (sym f) (inr one.1.1.0)
          | inr f ↦ subst (λ l. Among one.0 l) (sym f) one.1.1.0
        ] in (
          way,
          λ p k. outcome_reads t e (read_to t caller path ++ way) (batched e.entry path asked.force token (batch_page t path token asked.max) b)
              (target_acts parts t possible.stands possible.agrees e.entry of.asks ∙ reading_both (read_to t caller path) way (batched e.entry path asked.force token (batch_page t path token asked.max) b)) p
              (among_right p (read_to t caller path) way k),
          one_lies n.stripe one.1.0 (ids_of parts way)
              (one_has (known parts way) (one.0, one.1.0) (known_has parts way one.0 one.1.0 on_way (short_id parts one.0 (reached_short parts t possible.stands one.0 one.1.0 one.1.1.1.0) ∙ one.1.1.1.0))) (sym one.1.1.1.1),
        ))

    -- ---- a stripe of the batch

    pub batch_needed : (n : Need) → NeedsOfBatch held shown call asked n → Answers held shown call (Err (stop.Need n))
    batch_needed n needs =
        touched_need held shown call.request.now call.moment call.fresh n needs.within needs.asks needs.lacks (λ parts t e possible of.
        let one = needs.needed parts t possible.stands possible.agrees e.entry of.asks of.comes_at in
        let b = batch_of t e.entry asked.change.now asked.force (batch_page t path token asked.max).paths in
        let reads = read_to t caller path ++ (on_the_way t (is_prefix path) token ++ map (λ (f : Failure). f.path) b.failed) in
        let changed = map (λ (x : Path × Put). x.0) b.changed in
        let there : Among one.0 (reads ++ changed) = in_batch one.0 (read_to t caller path) (on_the_way t (is_prefix path) token) (map (λ (f : Failure). f.path) b.failed) changed one.1.1.0 in (
          one.0 ∷ [],
          λ p k. elim k [
            | inl same ↦ touched_outcome t e.entry p (subst (λ (o : Outcome). Among p (touched o)) (sym (target_acts parts t possible.stands possible.agrees e.entry of.asks)) (subst (λ q. Among q (reads ++ changed)) (sym same) there))
            | inr none ↦ absurd none
          ],
          one_lies n.stripe one.1.0 (ids_of parts (one.0 ∷ []))
              (one_has (known parts (one.0 ∷ [])) (one.0, one.1.0)
              (known_has parts (one.0 ∷ []) one.0 one.1.0 (inl refl) (short_id parts one.0 (reached_short parts t possible.stands one.0 one.1.0 one.1.1.1.0) ∙ one.1.1.1.0))) (sym one.1.1.1.1),
        ))

  -- ---- the batch

  module _ (held : Held) (shown : Shown) (reads : List NodeId) (read_so : IsRead held shown call token reads) (run : Run) (ran : IsRun held shown call asked run) where
    abbrev rows : List Step
    rows = ran.rows

    abbrev the_turns : Turns
    the_turns = turns_of call asked

    abbrev the_batch : Batch
    the_batch = batch_by the_turns call.moment path ran.rows

    pub counts : IsCountOf run.tally.changed (items_view run.tally.failed.items) the_batch
    counts = record { directories = ran.tally.directories; files = ran.tally.files; failed = ran.tally.failed }

    module _ (all : List NodeId) (all_are : all ≡ reads ++ run.tally.failed_ids.items) where
      all_numbers : numbers_of all ≡ numbers_of reads ++ ids_in (failed_nodes the_turns ran.rows)
      all_numbers = ap numbers_of all_are ∙ numbers-append reads run.tally.failed_ids.items ∙ ap (λ l. numbers_of reads ++ l) ran.tally.ids

      pub all_looked : AreLookedAt held shown all
      all_looked id h = elim (or_tells _ _ (sym (ap (is_one_of id) all_numbers ∙ one_of_append id (numbers_of reads) (ids_in (failed_nodes the_turns ran.rows))) ∙ h)) [
        | inl k ↦ read_so.looked id k
        | inr k ↦ looked_ids held shown (failed_nodes the_turns ran.rows) (failed_held the_turns held shown ran.rows ran.looked) id k
      ]

      pub is_batch : (reply : Reply) → ((b : Batch) → IsCountOf run.tally.changed (items_view run.tally.failed.items) b → reply ≡ with_body 200 (page_fields (slice_get path 0) run.next) (batch_body b))
          → IsBatchOf shown call all run.tally.edits.items reply
      is_batch reply says e asks at parts t stands agrees =
          let here = read_so.is_read parts t stands agrees in
          let done = ran.is_run parts t stands agrees in
          let way = on_the_way t (is_prefix path) token in
          let failed = map (λ (f : Failure). f.path) the_batch.failed in
          let page = batch_page t path token asked.max in
          record {
            paths = read_to t caller path ++ (way ++ failed);
            nodes = edits_of the_turns call.moment path ran.rows;
            acts_so =
                step t e asks ∙ look.node_is t e path (some_of t e) caller (by_it e asks) here.shows.0 here.passes here.shows.1
                ∙ ap (λ b. reading (read_to t caller path) (reading way (batched e path asked.force token page b))) (done.batch e asks at)
                ∙ ap (λ n. edited_all (read_to t caller path ++ (way ++ failed)) the_batch.changed (with_body 200 (page_fields (slice_get path 0) n) (batch_body the_batch))) done.next_is
                ∙ ap (edited_all (read_to t caller path ++ (way ++ failed)) the_batch.changed) (sym (says the_batch counts));
            puts = puts_ascending parts (edits_of the_turns call.moment path ran.rows)
                (puts_ascend the_turns call.moment path ran.rows (front_ascends (paths_in path ran.rows) done.front.0 (subst Ascends done.front.1 (behind_ascends t path token))))
                (each_put the_turns call.moment path parts t ran.rows done.nodes);
            edits_are = ran.tally.edits;
            reads_are = λ id.
                ap (is_one_of id) all_numbers ∙ one_of_append id (numbers_of reads) (ids_in (failed_nodes the_turns ran.rows))
                ∙ ap (λ b. b || is_one_of id (ids_in (failed_nodes the_turns ran.rows))) (here.read id)
                ∙ ap (λ l. is_one_of id (ids_of parts (read_to t caller path ++ way)) || is_one_of id l) (sym (nodes_ids parts t stands failed (failed_nodes the_turns ran.rows) (failed_are the_turns call.moment path parts t ran.rows done.nodes)))
                ∙ sym (one_of_append id (ids_of parts (read_to t caller path ++ way)) (ids_of parts failed))
                ∙ ap (is_one_of id) (sym (ids_of_append parts (read_to t caller path ++ way) failed))
                ∙ ap (λ l. is_one_of id (ids_of parts l)) (append_assoc (read_to t caller path) way failed);
          }

  -- a batch of nothing
  pub nothing_ran : (held : Held) (shown : Shown) (run : Run) → IsBeginning held shown path token None → IsTally (turns_of call asked) call.moment path [] run.tally → run.next ≡ None → IsRun held shown call asked run
  nothing_ran held shown run none tally next = record {
    rows = [];
    tally = tally;
    is_run = λ parts t stands agrees.
        run_in call is asked parts t [] [] run.next tt (none parts t stands agrees).0 (λ f. refl)
        (last_page asked.max path (nodes_behind t path token) [] (none parts t stands agrees).0 (omega arith) ∙ ap (λ o. record { paths = []; next = o }) (sym next));
    looked = tt;
    on_page = subst (λ o. IfSome o (λ k. is_on_page (slice_get path 0) k ≡ true)) (sym next) tt;
  }

-- what was found is so at a later view too
pub target_later : {O : Type 0} {held later : Held} {over over_later : O} {shown shown_later : Shown} → GoesOn held later over over_later shown shown_later → (call : Call) (target : Target) → IsTarget held shown call target → IsTarget later shown_later call target
target_later {held} {later} {shown} {shown_later} on call target is = record {
  is_target = λ parts t stands agrees. is.is_target parts t stands (agrees_earlier on parts agrees);
  top = (
    λ parts t stands agrees. is.top.0 parts t stands (agrees_earlier on parts agrees),
    subst (λ h. IsHeldAndShown h shown_later target.top.id.0) (sym on.held_same) (held_grows held shown shown_later (target.top ∷ []) on.grows (is.top.1, tt)).0,
  );
  looked = looked_later on target.reads.items is.looked;
}

pub held_later : {O : Type 0} {held later : Held} {over over_later : O} {shown shown_later : Shown} → GoesOn held later over over_later shown shown_later → (seen : List Seen) → AreHeld held shown seen → AreHeld later shown_later seen
held_later {held} {later} {shown} {shown_later} on seen are = subst (λ h. AreHeld h shown_later seen) (sym on.held_same) (held_grows held shown shown_later seen on.grows are)
