-- What the answers of a listing owe: on the way, where nothing is found, at the directory, and by the page that was read.
use Rattle.std.proofs.Common.{◌≡◌, ◌≢◌, inl, inr, ℕ, ◌≤◌, Bool, true, false, List, [], ◌++◌, length, Option, Some, None, unwrap_or, Ok, Err, refl, sym, ap, subst, ◌∙◌, arith}
use Rattle.namespace_model.specs.declared.caller.Caller.{Caller}
use Rattle.namespace_model.specs.declared.op.Op.TheVariants as op
use Rattle.namespace_model.specs.declared.reply.Reply.{Reply}
use Rattle.namespace_model.specs.declared.request.Entry.{Entry}
use Rattle.namespace_model.specs.declared.request.Request.{Request}
use Rattle.namespace_model.specs.ListPaths.{is_closed, list_node, list_page, paged}
use Rattle.namespace_model.specs.Looks as looks
use Rattle.namespace_model.specs.Nodes.{Node}
use Rattle.namespace_model.specs.Outcomes.{Outcome, answered, reading, unless}
use Rattle.namespace_model.specs.Pages as model
use Rattle.namespace_model.specs.Refusals.{caller_of, nobody, or_else, first_refusal}
use Rattle.namespace_model.specs.Sound.{IsOperation}
use Rattle.namespace_model.specs.Step.{acts}
use Rattle.namespace_model.specs.Trees.{Path, Tree}
use Rattle.namespace_model.proofs.Alikeness.{among_right}
use Rattle.namespace_model.proofs.WayLemmas.{reading_both}
use Rattle.inode_tree.specs.declared.draft.Draft.{Draft}
use Rattle.inode_tree.specs.declared.draft.EvalStop.TheVariants as stop
use Rattle.inode_tree.specs.declared.id.NodeId.{NodeId}
use Rattle.inode_tree.specs.declared.need.Need.{Need}
use Rattle.inode_tree.specs.After.{known}
use Rattle.inode_tree.specs.Footprints.{ids_of}
use Rattle.inode_tree.specs.Inodes.{BareInode, node_of}
use Rattle.inode_tree.specs.Parts.{Parts, id_at}
use Rattle.inode_tree.specs.Promises.{numbers_of, is_one_of}
use Rattle.inode_tree.specs.Stands.{Stands}
use Rattle.inode_tree.specs.Views.{Held, Shown, Agrees, Agreeing}
use Rattle.inode_tree.proofs.FrameLemmas.{short_id}
use Rattle.inode_tree.proofs.IndexLemmas.{reached_short}
use Rattle.inode_tree.proofs.PairLemmas.{known_has}
use Rattle.path_walk.specs.declared.call.Call.{Call}
use Rattle.path_walk.specs.declared.find.Find.{Find}
use Rattle.path_walk.specs.declared.find.Found.{Found}
use Rattle.path_walk.specs.declared.find.Found.TheVariants as found
use Rattle.path_walk.specs.Answers.{IsAnswered, found_outcome}
use Rattle.path_walk.specs.Calls.{IsCall, Answers, GoesOn}
use Rattle.path_walk.specs.Finds.{read_to, IsFindFor, IsNeedOfFind}
use Rattle.path_walk.specs.Visits.{AreLookedAt}
use Rattle.path_walk.proofs.AnswerLemmas.{answer_is_draft, read_need, outcome_reads}
use Rattle.path_walk.proofs.CallLemmas.{agrees_earlier, looked_later}
use Rattle.path_walk.proofs.FindLemmas.{node_found, ids_of_append}
use Rattle.path_walk.proofs.CallAnswers.{found_answer, found_lacks}
use Rattle.path_walk.proofs.LookAnswers as look
use Rattle.path_walk.proofs.ReadLemmas.{or_tells}
use Rattle.path_walk.proofs.SetLemmas.{one_has, one_lies}
use Rattle.path_walk.proofs.TrailLemmas.{one_of_append}
use Rattle.path_order.specs.PagesBelow.{ids_in, AreNodesOf}
use Rattle.path_order.specs.Starts.{IsAtFor}
use Rattle.path_order.proofs.NodeIds.{nodes_ids}
use Rattle.path_order.proofs.WholeLemmas.{looked_ids}
use Rattle.path_listing.specs.declared.eval.Directory.{Directory}
use Rattle.path_listing.specs.declared.rows.Page.{Page}
use Rattle.path_listing.specs.declared.rows.Wanted.{Wanted}
use Rattle.path_listing.specs.Listed.{paths_in, nodes_in, way_read, page_closed, page_reply, refusal_of, way_closed, AreShown, AreTimely, IsAsked, IsDirectoryOf, IsPage, IsWayWithin, NeedsPage}
use Rattle.path_listing.proofs.ListSteps.{step_is, node_is, paged_is, asked, reply_of, first_both}
use Rattle.path_listing.proofs.RowLemmas.{rows_shown, rows_asked, rows_timely}
use Rattle.path_listing.proofs.WayFronts.{way_first, way_within, no_way_within}

module _ (call : Call) (is : IsCall call) (wanted : Wanted) (asks_for : IsAsked call wanted) where
  abbrev path : Path
  path = call.path.now

  abbrev caller : Caller
  caller = call.caller.now

  abbrev recursive : Bool
  recursive = wanted.recursive

  abbrev token : Option Path
  token = wanted.token.now

  abbrev max : ℕ
  max = wanted.max

  abbrev some_of : Tree → Entry → Node → Outcome
  some_of t e = list_node t e path recursive token max

  step : (t : Tree) (e : Entry) → e.request ≡ call.request.now → acts t e e.request.op ≡ looks.found t e path (some_of t e)
  step t e asks = ap (λ (r : Request). acts t e r.op) asks ∙ ap (acts t e) asks_for ∙ step_is t e path recursive token max

  by_it : (e : Entry) → e.request ≡ call.request.now → caller_of e ≡ caller
  by_it e asks = ap (λ (r : Request). unwrap_or r.caller nobody) asks ∙ ap (λ c. unwrap_or c nobody) is.by

  sound_list : IsOperation (op.List path recursive token max) (length call.request.now.body)
  sound_list = subst (λ o. IsOperation o (length call.request.now.body)) asks_for is.sound.operation

  pub some_path : path ≢ []
  some_path e = absurd (let l = sound_list.0.parts in let k : length path ≡ 0 = ap (λ (p : Path). length p) e in omega arith)

  pub some_max : 1 ≤ max
  some_max = sound_list.1.some

  -- ---- what was found

  -- no node was found
  pub lost_answer : (held : Held) (shown : Shown) (f : Find) (other : Found) (reply : Reply) (d : Draft) → IsFindFor shown caller path f → AreLookedAt held shown f.ids.items → f.found ≡ other
      → IsAnswered call.request.now.close reply f.ids.items d → ((some : Node → Outcome) → found_outcome path some other ≡ answered reply) → Answers held shown call (Ok d)
  lost_answer held shown f other reply d finds looked same answers says =
      found_answer held shown call some_of f reply d is step finds looked answers (λ t e asks comes. ap (λ o. found_outcome path (some_of t e) o) same ∙ says (some_of t e))

  -- a stripe on the way to the node isn't held
  pub find_needed : (held : Held) (shown : Shown) (n : Need) → IsNeedOfFind held shown caller path n → Answers held shown call (Err (stop.Need n))
  find_needed held shown n needs = found_lacks held shown call some_of n is step needs

  -- the node was found
  pub directory_found : (held : Held) (shown : Shown) (f : Find) (id : NodeId) (x : BareInode) (d : Directory) → IsFindFor shown caller path f → AreLookedAt held shown f.ids.items → f.found ≡ found.Node id x
      → d.reads.items ≡ f.ids.items → d.node ≡ x → IsDirectoryOf held shown call d
  directory_found held shown f id x d finds looked same reads node = record {
    is_directory = λ parts t stands agrees.
        let find = finds parts t stands agrees in
        let here = node_found parts t caller path f id x find same in
        record {
          passes = here.0;
          shows = here.1 ∙ ap (λ (y : BareInode). Some (node_of y)) (sym node);
          place = (id.0, record { leads = here.2.leads; there = here.2.there ∙ ap Some (sym node) });
          reads = ap (λ (l : List NodeId). numbers_of l) reads ∙ find.read;
        };
    looked = subst (λ (l : List NodeId). AreLookedAt held shown l) (sym reads) looked;
  }

  -- ---- the node

  module _ (held : Held) (shown : Shown) (d : Directory) (dir : IsDirectoryOf held shown call d) where
    pub dir_at : IsAtFor shown path d.node
    dir_at parts t stands agrees = (dir.is_directory parts t stands agrees).place

    dir_acts : (parts : Parts) (t : Tree) → Stands parts t → Agrees shown parts → (e : Entry) → e.request ≡ call.request.now
        → acts t e e.request.op ≡ reading (read_to t caller path) (unless (refusal_of caller path d.node) (paged t e path recursive token (list_page t path recursive token max)))
    dir_acts parts t stands agrees e asks =
        let here = dir.is_directory parts t stands agrees in
        step t e asks ∙ look.node_is t e path (list_node t e path recursive token max) caller (by_it e asks) (node_of d.node) here.passes here.shows
        ∙ ap (reading (read_to t caller path)) (node_is t e path recursive token max caller (by_it e asks) d.node)

    -- it is refused
    pub refused_answer : (reply : Reply) (draft : Draft) → refusal_of caller path d.node ≡ Some reply → IsAnswered call.request.now.close reply d.reads.items draft → Answers held shown call (Ok draft)
    refused_answer reply draft denies answers =
        answer_is_draft held shown call.request.now call.moment call.fresh reply d.reads.items draft is.sound dir.looked answers (λ parts t e possible of. (
          read_to t caller path,
          dir_acts parts t possible.stands possible.agrees e.entry of.asks
              ∙ ap (λ r. reading (read_to t caller path) (unless r (paged t e.entry path recursive token (list_page t path recursive token max)))) denies,
          λ id. ap (is_one_of id) (dir.is_directory parts t possible.stands possible.agrees).reads,
        ))

    module _ (lets : refusal_of caller path d.node ≡ None) where
      abbrev page_paths : Tree → List Path
      page_paths t = way_read t path recursive token ++ (list_page t path recursive token max).paths

      abbrev reply_on : Tree → Reply
      reply_on t = unwrap_or (asked caller t recursive (page_paths t)) (reply_of t path (list_page t path recursive token max))

      -- the page is read, and then comes the reply by it
      page_acts : (parts : Parts) (t : Tree) → Stands parts t → Agrees shown parts → (e : Entry) → e.request ≡ call.request.now
          → acts t e e.request.op ≡ reading (read_to t caller path ++ page_paths t) (answered (reply_on t))
      page_acts parts t stands agrees e asks =
          dir_acts parts t stands agrees e asks
          ∙ ap (λ r. reading (read_to t caller path) (unless r (paged t e path recursive token (list_page t path recursive token max)))) lets
          ∙ ap (reading (read_to t caller path)) (paged_is t e path recursive token (list_page t path recursive token max) caller (by_it e asks))
          ∙ reading_both (read_to t caller path) (page_paths t) (answered (reply_on t))

      -- a stripe in which a node of the page lies isn't held
      pub page_needed : (n : Need) → NeedsPage held shown path recursive token max n → Answers held shown call (Err (stop.Need n))
      page_needed n needs =
          read_need held shown call.request.now call.moment call.fresh n needs.within needs.asks needs.lacks (λ parts t e possible of.
          let one = needs.needed parts t possible.stands possible.agrees in
          let id : id_at parts one.0 ≡ Some one.1.0 = short_id parts one.0 (reached_short parts t possible.stands one.0 one.1.0 one.1.1.1.0) ∙ one.1.1.1.0 in
          let all = among_right one.0 (read_to t caller path) (page_paths t) one.1.1.0 in (
            read_to t caller path ++ page_paths t,
            outcome_reads t e (read_to t caller path ++ page_paths t) (answered (reply_on t)) (page_acts parts t possible.stands possible.agrees e.entry of.asks),
            one_lies n.stripe one.1.0 (ids_of parts (read_to t caller path ++ page_paths t))
                (one_has (known parts (read_to t caller path ++ page_paths t)) (one.0, one.1.0) (known_has parts (read_to t caller path ++ page_paths t) one.0 one.1.0 all id)) (sym one.1.1.1.1),
          ))

      -- ---- the page

      module _ (p : Page) (page : IsPage held shown path recursive token max p) where
        pub dates_there : ∥ Agreeing shown ∥₁ → AreTimely p.rows.items
        dates_there some = rows_timely shown some path p.rows.items (λ a. (page.page_in a.parts a.tree a.stands a.agrees).nodes)

        -- the first refusal is that of the rows and the way
        page_asked : (parts : Parts) (t : Tree) → Stands parts t → Agrees shown parts → asked caller t recursive (page_paths t) ≡ page_closed caller path recursive token p
        page_asked parts t stands agrees =
            let here = page.page_in parts t stands agrees in
            ap (λ (q : model.Page). asked caller t recursive (way_read t path recursive token ++ q.paths)) here.is_page
            ∙ by_kind recursive token here.way (rows_shown parts t path p.rows.items here.nodes)
          where
            by_kind : (r : Bool) (k : Option Path) → AreNodesOf parts t (way_read t path r k) p.way.items → AreShown t path p.rows.items
                → asked caller t r (way_read t path r k ++ paths_in path p.rows.items) ≡ page_closed caller path r k p
            by_kind false k way rows = refl
            by_kind true None way rows = rows_asked caller t path p.rows.items rows
            by_kind true (Some k) way rows =
                first_both (is_closed caller) t (way_read t path true (Some k)) (paths_in path p.rows.items)
                ∙ ap (λ a. or_else a (first_refusal (is_closed caller) t (paths_in path p.rows.items))) (way_first caller parts t stands path k p.way.items way)
                ∙ ap (or_else (way_closed caller k (length path) p.way.items)) (rows_asked caller t path p.rows.items rows)

        page_says : (parts : Parts) (t : Tree) → Stands parts t → Agrees shown parts → reply_on t ≡ page_reply t caller path wanted p
        page_says parts t stands agrees =
            ap (λ r. unwrap_or r (reply_of t path (list_page t path recursive token max))) (page_asked parts t stands agrees)
            ∙ ap (λ (q : model.Page). unwrap_or (page_closed caller path recursive token p) (reply_of t path q)) (page.page_in parts t stands agrees).is_page

        module _ (reads : List NodeId) (reads_are : numbers_of reads ≡ numbers_of d.reads.items ++ (ids_in p.way.items ++ ids_in (nodes_in p.rows.items))) where
          all_looked : AreLookedAt held shown reads
          all_looked id h = elim (or_tells _ _ (sym (ap (is_one_of id) reads_are ∙ one_of_append id (numbers_of d.reads.items) (ids_in p.way.items ++ ids_in (nodes_in p.rows.items))) ∙ h)) [
            | inl k ↦ dir.looked id k
            | inr k ↦ elim (or_tells _ _ (sym (one_of_append id (ids_in p.way.items) (ids_in (nodes_in p.rows.items))) ∙ k)) [
              | inl m ↦ looked_ids held shown p.way.items page.looked_way id m
              | inr m ↦ looked_ids held shown (nodes_in p.rows.items) page.looked id m
            ]
          ]

          all_read : (parts : Parts) (t : Tree) → Stands parts t → Agrees shown parts → numbers_of reads ≡ ids_of parts (read_to t caller path ++ page_paths t)
          all_read parts t stands agrees =
              let here = page.page_in parts t stands agrees in
              reads_are
              ∙ ap (λ l. l ++ (ids_in p.way.items ++ ids_in (nodes_in p.rows.items))) (dir.is_directory parts t stands agrees).reads
              ∙ ap (λ l. ids_of parts (read_to t caller path) ++ (l ++ ids_in (nodes_in p.rows.items))) (sym (nodes_ids parts t stands (way_read t path recursive token) p.way.items here.way))
              ∙ ap (λ l. ids_of parts (read_to t caller path) ++ (ids_of parts (way_read t path recursive token) ++ l)) (sym (nodes_ids parts t stands (paths_in path p.rows.items) (nodes_in p.rows.items) here.nodes))
              ∙ ap (λ l. ids_of parts (read_to t caller path) ++ l) (sym (ids_of_append parts (way_read t path recursive token) (paths_in path p.rows.items)))
              ∙ sym (ids_of_append parts (read_to t caller path) (way_read t path recursive token ++ paths_in path p.rows.items))
              ∙ ap (λ (q : model.Page). ids_of parts (read_to t caller path ++ (way_read t path recursive token ++ q.paths))) (sym here.is_page)

          -- the reply by the page
          pub page_answer : (reply : Reply) (draft : Draft) → ((t : Tree) → AreShown t path p.rows.items → reply ≡ page_reply t caller path wanted p)
              → IsAnswered call.request.now.close reply reads draft → Answers held shown call (Ok draft)
          page_answer reply draft says answers =
              answer_is_draft held shown call.request.now call.moment call.fresh reply reads draft is.sound all_looked answers (λ parts t e possible of. (
                read_to t caller path ++ page_paths t,
                page_acts parts t possible.stands possible.agrees e.entry of.asks
                    ∙ ap (λ r. reading (read_to t caller path ++ page_paths t) (answered r))
                    (page_says parts t possible.stands possible.agrees ∙ sym (says t (rows_shown parts t path p.rows.items (page.page_in parts t possible.stands possible.agrees).nodes))),
                λ id. ap (is_one_of id) (all_read parts t possible.stands possible.agrees),
              ))

-- the way to the token has names enough
pub way_there : (held : Held) (shown : Shown) (dir : Path) (recursive : Bool) (token : Option Path) (max : ℕ) (p : Page) → IsPage held shown dir recursive token max p → ∥ Agreeing shown ∥₁ → IsWayWithin dir token p.way.items
way_there held shown dir deep after most p page some = by_kind deep after (λ a. (page.page_in a.parts a.tree a.stands a.agrees).way)
  where
    by_kind : (r : Bool) (k : Option Path) → ((a : Agreeing shown) → AreNodesOf a.parts a.tree (way_read a.tree dir r k) p.way.items) → IsWayWithin dir k p.way.items
    by_kind true k are = way_within shown some dir k p.way.items are
    by_kind false k are = no_way_within shown some dir k p.way.items are

-- what was found is so at a later view too
pub directory_later : {O : Type 0} {held later : Held} {over over_later : O} {shown shown_later : Shown} → GoesOn held later over over_later shown shown_later → (call : Call) (d : Directory)
    → IsDirectoryOf held shown call d → IsDirectoryOf later shown_later call d
directory_later on call d is = record {
  is_directory = λ parts t stands agrees. is.is_directory parts t stands (agrees_earlier on parts agrees);
  looked = looked_later on d.reads.items is.looked;
}
