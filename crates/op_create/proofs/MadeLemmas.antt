-- The draft by which new nodes come to stand is that of the step.
use Rattle.std.proofs.Common.{◌≡◌, ◌≢◌, ℕ, zero, suc, pred, ◌+◌, ◌≤◌, ◌==◌, Bool, true, false, cond, ◌||◌, nat_lt, leb, List, [], ◌∷◌, ◌++◌, map, flat_map, zip, length, Option, Some, None, option_and_then, option_map, IsSome, Ok, Err, refl, ap, sym, ◌∙◌, append-nil, arith}
use Rattle.std.proofs.lemmas.Bool.Decides.{nat_tests}
use Rattle.std.specs.Cmp.{unsigned_Decides}
use Rattle.std.specs.Ordering.{eq_by_cmp}
use Rattle.std.specs.FinMap.{find}
use Rattle.path_text.specs.Paths.{path_cmp}
use Rattle.namespace_model.specs.declared.caller.Caller.{Caller}
use Rattle.namespace_model.specs.declared.request.Entry.{Entry}
use Rattle.namespace_model.specs.declared.request.Request.{Request}
use Rattle.namespace_model.specs.Create.{Making, made, new_nodes}
use Rattle.namespace_model.specs.Effects.{Put, Effect}
use Rattle.namespace_model.specs.Nodes.{Node}
use Rattle.namespace_model.specs.Outcomes.{Outcome, reading, once, without_repeats}
use Rattle.namespace_model.specs.Refusals.{caller_of}
use Rattle.namespace_model.specs.Replies.{success, stamp_fields}
use Rattle.namespace_model.specs.Sound.{IsSound}
use Rattle.namespace_model.specs.Step.{acts, closing, outcome, with_close}
use Rattle.namespace_model.specs.Trees.{Path, Tree}
use Rattle.namespace_model.proofs.Lookups.{same_path}
use Rattle.namespace_model.proofs.Prefixes.{length_append}
use Rattle.inode_tree.specs.declared.change.Change.TheVariants as change
use Rattle.inode_tree.specs.declared.draft.Draft.{Draft}
use Rattle.inode_tree.specs.declared.draft.EvalStop.TheVariants as stop
use Rattle.inode_tree.specs.declared.fresh.Fresh.{Fresh}
use Rattle.inode_tree.specs.declared.id.NodeId.{NodeId}
use Rattle.inode_tree.specs.declared.need.Need.{Need}
use Rattle.inode_tree.specs.declared.placed.Placed.{Placed}
use Rattle.inode_tree.specs.After.{Relink, Turn, stays_at, gone, making_of as turns_of, turned, turns, turns_by, turns_on, relinks, relinked_in, known, with_id, drawn_ids, outcome_on}
use Rattle.inode_tree.specs.Changes.{linked, node_after}
use Rattle.inode_tree.specs.Drawing.{next_ids}
use Rattle.inode_tree.specs.Footprints.{ids_of, written_ids}
use Rattle.inode_tree.specs.Inodes.{BareContent, BareInode, directory, file, node_of}
use Rattle.inode_tree.specs.Parts.{Parts, inode_at, follow, id_at}
use Rattle.inode_tree.specs.Promises.{IsEntryOf, numbers_of, is_one_of, IsOfStep}
use Rattle.inode_tree.specs.Views.{Held, Shown, ArePossible}
use Rattle.inode_tree.proofs.FrameLemmas.{follow-append, short_id}
use Rattle.inode_tree.proofs.IndexLemmas.{reached_short}
use Rattle.inode_tree.proofs.LinkLemmas.{last_link, path_differs}
use Rattle.inode_tree.proofs.PairLemmas.{drawn_links}
use Rattle.inode_tree.proofs.PromiseLemmas.{of_step, outcome_there, changed_by}
use Rattle.inode_tree.proofs.TurnLemmas.{turned_by}
use Rattle.path_walk.specs.Holds.{AreHeldToWrite, LacksStripe}
use Rattle.path_walk.specs.declared.call.Call.{Call}
use Rattle.path_walk.specs.Calls.{IsCall, Answers}
use Rattle.path_walk.proofs.HoldLemmas.{written_need}
use Rattle.path_walk.proofs.SetLemmas.{ids_once}
use Rattle.path_walk.proofs.Truths.{both_same, swapped}
use Rattle.op_create.specs.declared.nodes.NewNode.{NewNode}
use Rattle.op_create.specs.declared.place.Place.{Place}
use Rattle.op_create.specs.Creates.{IsCreate, making_of, IsPlace, LeadsTo, replaced_path}
use Rattle.op_create.specs.Chains.{Maker, maker_of, chained, dropped, to_write, IsMade}
use Rattle.op_create.proofs.ChainLemmas.{maker_for, paths_from, paths_are, not_among, chain_once, once_all, length_paths, none_put, SaysAs, links_here, chain_same}
use Rattle.op_create.proofs.CreateLemmas.{caller_is, step_is}

-- ---- ids

id_none : (parts : Parts) (q : Path) → follow parts 0 q ≡ None → id_at parts q ≡ None
id_none parts q e = ap (λ o. cond (leb (length q) 60) o None) e ∙ both_same (leb (length q) 60) None

-- nothing below a path that leads nowhere has an id
none_known : (parts : Parts) (done names : Path) → follow parts 0 done ≡ None → known parts (paths_from done names) ≡ []
none_known parts done [] h = refl
none_known parts done (n ∷ names) h =
    let none : follow parts 0 (done ++ n ∷ []) ≡ None = follow-append parts 0 done (n ∷ []) ∙ ap (option_and_then (λ c. follow parts c (n ∷ []))) h in
    ap (λ o. with_id (done ++ n ∷ []) o ++ known parts (paths_from (done ++ n ∷ []) names)) (id_none parts (done ++ n ∷ []) none) ∙ none_known parts (done ++ n ∷ []) names none

not_less : (a b : ℕ) → a ≡ b → nat_lt a b ≡ false
not_less a b e = grind (arith, nat_tests)

pub length_next : (pass used many : ℕ) → length (next_ids pass used many) ≡ many
length_next pass used zero = refl
length_next pass used (suc many) = ap suc (length_next pass (suc used) many)

length_numbers : (ids : List NodeId) → length (numbers_of ids) ≡ length ids
length_numbers [] = refl
length_numbers (id ∷ ids) = ap suc (length_numbers ids)

-- ---- turns

abbrev effect_of : List (Path × Put) → Option NodeId → Path → Effect
effect_of puts old path = record { taken = replaced_path old path; puts = puts; move = None }

abbrev known_of : Path → NodeId → Option NodeId → Path → List (Path × ℕ)
known_of p base None path = (p, base.0) ∷ []
known_of p base (Some a) path = (p, base.0) ∷ (path, a.0) ∷ []

abbrev gone_of : Option NodeId → List Turn
gone_of None = []
gone_of (Some a) = gone a.0 ∷ []

module _ (puts : List (Path × Put)) (p path : Path) (base : NodeId) (ls : List Relink) (drawn : List (Path × ℕ)) (none : find path_cmp p puts ≡ None) (differs : p ≢ path) where
  abbrev makings_of : Option NodeId → List Turn
  makings_of old = flat_map (turns_of (effect_of puts old path) ls) drawn

  abbrev old_turn : NodeId → Bool → Turn
  old_turn a b = cond (b || false) (gone a.0) (stays_at a.0 path (find path_cmp path puts) ls)

  turns_are : (old : Option NodeId) → turns (effect_of puts old path) ls (known_of p base old path) drawn ≡ stays_at base.0 p None ls ∷ (gone_of old ++ makings_of old)
  turns_are None = ap (λ o. stays_at base.0 p o ls ∷ makings_of None) none
  turns_are (Some a) =
      ap (λ b. cond (b || false) (gone base.0) (stays_at base.0 p (find path_cmp p puts) ls) ∷ old_turn a (eq_by_cmp path_cmp path path) ∷ makings_of (Some a)) (path_differs p path differs)
      ∙ ap (λ o. stays_at base.0 p o ls ∷ old_turn a (eq_by_cmp path_cmp path path) ∷ makings_of (Some a)) none
      ∙ ap (λ b. stays_at base.0 p None ls ∷ old_turn a b ∷ makings_of (Some a)) (same_path path)

module _ (en : Placed) (m : Making) (p : Path) (n : List ℕ) (names : Path) (base : NodeId) (x : Node) (id : NodeId) (ids : List NodeId) (long : length ids ≡ length names) (old : Option NodeId)
    (alone : IsSome old → names ≡ []) where
  abbrev e : Entry
  e = en.entry

  abbrev path : Path
  path = p ++ n ∷ names

  abbrev puts : List (Path × Put)
  puts = new_nodes e m x p (n ∷ names)

  abbrev numbers : List ℕ
  numbers = numbers_of (id ∷ ids)

  abbrev fresh_paths : List Path
  fresh_paths = map (λ (y : Path × Put). y.0) puts

  abbrev eff : Effect
  eff = effect_of puts old path

  abbrev kn : List (Path × ℕ)
  kn = known_of p base old path

  abbrev ls : List Relink
  ls = relinks eff kn (zip fresh_paths numbers)

  abbrev makings : List Turn
  makings = flat_map (turns_of eff ls) (zip (paths_from p (n ∷ names)) numbers)

  ls_is : ls ≡ map (λ (q : Path). (q, None)) (replaced_path old path) ++ drawn_links (zip (paths_from p (n ∷ names)) numbers)
  ls_is = append-nil (map (λ (q : Path). (q, None)) (replaced_path old path) ++ drawn_links (zip fresh_paths numbers))
      ∙ ap (λ (f : List Path). map (λ (q : Path). (q, None)) (replaced_path old path) ++ drawn_links (zip f numbers)) (paths_are e m x p (n ∷ names))

  says : (number i : ℕ) → SaysAs number i e m eff ls p (n ∷ names) numbers
  says number i q h o = ap (λ l. last_link l q o) ls_is ∙ by_old old names alone
    where
      replaced_there : (b : Bool) → cond b (Some id.0) (cond b None o) ≡ cond b (Some id.0) o
      replaced_there true = refl
      replaced_there false = refl

      by_old : (a : Option NodeId) (more : Path) → (IsSome a → more ≡ [])
          → last_link (map (λ (q : Path). (q, None)) (replaced_path a (p ++ n ∷ more)) ++ drawn_links (zip (paths_from p (n ∷ more)) numbers)) q o ≡ last_link (drawn_links (zip (paths_from p (n ∷ more)) numbers)) q o
      by_old None more h = refl
      by_old (Some a) [] h = replaced_there (eq_by_cmp path_cmp q (p ++ n ∷ []))
      by_old (Some a) (k ∷ more) h = absurd (let l : length (k ∷ more) ≡ 0 = ap (λ (r : Path). length r) (h refl) in omega arith)

  longer_path : p ≢ path
  longer_path same =
      let l : length (p ++ n ∷ names) ≡ length p + length (n ∷ names) = length_append p (n ∷ names) in
      let k : length p ≡ length (p ++ n ∷ names) = ap (λ (r : Path). length r) same in
      let s : length (n ∷ names) ≡ suc (length names) = refl in
      omega arith

  turns_here : turns eff ls kn (zip fresh_paths numbers) ≡ stays_at base.0 p None ls ∷ (gone_of old ++ makings)
  turns_here =
      turns_are puts p path base ls (zip fresh_paths numbers) (none_put e m x p (n ∷ names)) longer_path old
      ∙ ap (λ (f : List Path). stays_at base.0 p None ls ∷ (gone_of old ++ flat_map (turns_of eff ls) (zip f numbers))) (paths_are e m x p (n ∷ names))

  -- the directory's turn is its link
  base_after : (number : ℕ) (before : Option BareInode) → node_after number (change.Link base n id) before ≡ turned number (stays_at base.0 p None ls) before
  base_after number None = refl
  base_after number (Some y) = ap (λ (c : BareContent). Some (record y { content = c })) (linked_is y.content)
    where
      linked_is : (c : BareContent) → linked n id.0 c ≡ relinked_in p ls c
      linked_is (directory links) = ap directory (sym (links_here number number e m eff ls p n names id.0 (numbers_of ids) (says number number) links))
      linked_is (file bytes staged) = refl

  same_after : (number i : ℕ) (before : Option BareInode) → ((a : NodeId) → old ≡ Some a → base.0 ≢ a.0)
      → changed_by number i (dropped old ++ chained (maker_for e) m x.group x.acl base (n ∷ names) (id ∷ ids)) before ≡ turned_by number i (stays_at base.0 p None ls ∷ (gone_of old ++ makings)) before
  same_after number i before apart = by_old old apart
    where
      chain_here : (state : Option BareInode) → changed_by number i (chained (maker_for e) m x.group x.acl base (n ∷ names) (id ∷ ids)) state
          ≡ turned_by number i makings (cond (base.0 == i) (node_after number (change.Link base n id) state) state)
      chain_here state = chain_same number i e m eff ls x p base n names id ids state long (says number i) (λ q h. refl)

      by_old : (o : Option NodeId) → ((a : NodeId) → o ≡ Some a → base.0 ≢ a.0)
          → changed_by number i (dropped o ++ chained (maker_for e) m x.group x.acl base (n ∷ names) (id ∷ ids)) before ≡ turned_by number i (stays_at base.0 p None ls ∷ (gone_of o ++ makings)) before
      by_old None apart = chain_here before ∙ ap (λ o. turned_by number i makings (cond (base.0 == i) o before)) (base_after number before)
      by_old (Some a) apart =
          chain_here (cond (a.0 == i) None before)
          ∙ ap (turned_by number i makings)
          (swapped (base.0 == i) (a.0 == i) (node_after number (change.Link base n id)) None before (λ u v. apart a refl ((unsigned_Decides base.0 i).0 u ∙ sym ((unsigned_Decides a.0 i).0 v)))
          ∙ ap (λ o. cond (a.0 == i) None (cond (base.0 == i) o before)) (base_after number before))

  -- ---- the step

  abbrev made_outcome : List Path → Outcome
  made_outcome paths = without_repeats (with_close e.request.close (reading paths (made e m p (replaced_path old path) puts)))

  outcome_is : (t : Tree) (paths : List Path) → acts t e e.request.op ≡ reading paths (made e m p (replaced_path old path) puts) → outcome t e ≡ made_outcome paths
  unfolding outcome
  outcome_is t paths h = ap (λ (o : Outcome). without_repeats (with_close e.request.close o)) h

  many_paths : length fresh_paths ≡ length (n ∷ names)
  many_paths = ap (λ (l : List Path). length l) (paths_are e m x p (n ∷ names)) ∙ length_paths p (n ∷ names)

  turns_are_by : (paths : List Path) → turns_by (made_outcome paths) kn numbers ≡ stays_at base.0 p None ls ∷ (gone_of old ++ makings)
  turns_are_by paths =
      ap (λ b. cond b [] (turns eff ls kn (zip fresh_paths numbers)))
      (not_less (length numbers) (length fresh_paths) (length_numbers (id ∷ ids) ∙ ap suc long ∙ sym many_paths))
      ∙ turns_here

  module _ (shown : Shown) (request : Request) (moment : ℕ) (fresh : Fresh) (parts : Parts) (t : Tree) (possible : ArePossible shown fresh.pass fresh.used parts t)
      (of : IsEntryOf request moment fresh t en) (paths : List Path) (steps : acts t e e.request.op ≡ reading paths (made e m p (replaced_path old path) puts))
      (leads : follow parts 0 p ≡ Some base.0) (first : follow parts 0 (p ++ n ∷ []) ≡ option_map (λ (i : NodeId). i.0) old) (next : id ∷ ids ≡ next_ids fresh.pass fresh.used (suc (length names))) where
    made_here : outcome t e ≡ made_outcome paths
    made_here = outcome_is t paths steps

    made_on : outcome_on parts en ≡ made_outcome paths
    made_on = outcome_there shown request moment fresh parts t en possible of ∙ made_here

    drawn_are : drawn_ids en ≡ numbers
    drawn_are =
        ap (λ (l : List NodeId). numbers_of l) (of.draws ∙ ap (λ (o : Outcome). next_ids fresh.pass fresh.used (length o.fresh)) made_here ∙ ap (next_ids fresh.pass fresh.used) many_paths ∙ sym next)

    id_is : (q : Path) (i : ℕ) → follow parts 0 q ≡ Some i → id_at parts q ≡ Some i
    id_is q i h = short_id parts q (reached_short parts t possible.stands q i h) ∙ h

    known_fresh : (a : Option NodeId) (more : Path) → (IsSome a → more ≡ []) → follow parts 0 (p ++ n ∷ []) ≡ option_map (λ (i : NodeId). i.0) a
        → (p, base.0) ∷ known parts (paths_from p (n ∷ more)) ≡ known_of p base a (p ++ n ∷ more)
    known_fresh None more h f =
        ap (λ o. (p, base.0) ∷ (with_id (p ++ n ∷ []) o ++ known parts (paths_from (p ++ n ∷ []) more))) (id_none parts (p ++ n ∷ []) f)
        ∙ ap (λ (l : List (Path × ℕ)). (p, base.0) ∷ l) (none_known parts (p ++ n ∷ []) more f)
    known_fresh (Some a) [] h f = ap (λ o. (p, base.0) ∷ (with_id (p ++ n ∷ []) o ++ [])) (id_is (p ++ n ∷ []) a.0 f)
    known_fresh (Some a) (k ∷ more) h f = absurd (let l : length (k ∷ more) ≡ 0 = ap (λ (r : Path). length r) (h refl) in omega arith)

    known_are : known parts (once (p ∷ fresh_paths)) ≡ kn
    known_are =
        ap (λ (l : List Path). known parts (once (p ∷ l))) (paths_are e m x p (n ∷ names))
        ∙ ap (known parts) (once_all (p ∷ paths_from p (n ∷ names)) (not_among p (n ∷ names) p (let h : length p ≤ length p = omega arith in h), chain_once p (n ∷ names)))
        ∙ ap (λ o. with_id p o ++ known parts (paths_from p (n ∷ names))) (id_is p base.0 leads)
        ∙ known_fresh old names alone first

    written_are : written_ids parts en ≡ numbers_of (to_write base old (id ∷ ids))
    written_are =
        ap (λ (o : Outcome). ids_of parts o.written ++ drawn_ids en) made_on
        ∙ ap (λ (l : List (Path × ℕ)). map (λ (y : Path × ℕ). y.1) l ++ drawn_ids en) known_are
        ∙ ap (λ (l : List ℕ). map (λ (y : Path × ℕ). y.1) kn ++ l) drawn_are
        ∙ by_old old
      where
        by_old : (o : Option NodeId) → map (λ (y : Path × ℕ). y.1) (known_of p base o path) ++ numbers ≡ numbers_of (to_write base o (id ∷ ids))
        by_old None = refl
        by_old (Some a) = refl

    turns_on_are : turns_on parts en ≡ stays_at base.0 p None ls ∷ (gone_of old ++ makings)
    turns_on_are =
        ap (λ (o : Outcome). turns_by o (known parts o.written) (drawn_ids en)) made_on
        ∙ ap (λ l. turns_by (made_outcome paths) l (drawn_ids en)) known_are
        ∙ ap (turns_by (made_outcome paths) kn) drawn_are
        ∙ turns_are_by paths

    -- no id is that of two paths
    apart : (a : NodeId) → old ≡ Some a → base.0 ≢ a.0
    apart a is same = long_path (possible.stands.once p (p ++ n ∷ []) base.0 leads (first ∙ ap (option_map (λ (i : NodeId). i.0)) is ∙ ap Some (sym same)))
      where
        long_path : p ≢ p ++ n ∷ []
        long_path e = let l : length (p ++ n ∷ []) ≡ length p + 1 = length_append p (n ∷ []) in let k : length p ≡ length (p ++ n ∷ []) = ap (λ (r : Path). length r) e in omega arith

    pub made_of_step : (d : Draft) (reads writes : List NodeId) (maker : Maker) → maker ≡ maker_for e → IsSound request → numbers_of reads ≡ ids_of parts paths → writes ≡ to_write base old (id ∷ ids)
        → d.reply ≡ closing request.close (success 201 (stamp_fields moment)) → d.reads.items ≡ reads → d.writes.items ≡ writes
        → d.changes.items ≡ dropped old ++ chained maker m x.group x.acl base (n ∷ names) (id ∷ ids) → d.drawn ≡ length (id ∷ ids) → IsOfStep d parts t en
    made_of_step d reads writes maker same sound read writes_is replies reads_are writes_are changes_are draws =
        of_step shown request moment fresh parts t en possible of d sound
        (replies ∙ ap (λ (r : Request). closing r.close (success 201 (stamp_fields moment))) (sym of.asks) ∙ ap (λ k. closing e.request.close (success 201 (stamp_fields k))) (sym of.comes_at)
        ∙ sym (ap (λ (o : Outcome). o.reply) made_here))
        (draws ∙ ap suc long ∙ sym (ap (λ (o : Outcome). length o.fresh) made_here ∙ many_paths))
        (λ i. ap (λ (l : List NodeId). is_one_of i (numbers_of l)) reads_are ∙ ap (is_one_of i) read
        ∙ sym (ap (λ (o : Outcome). is_one_of i (ids_of parts o.read)) made_on ∙ ap (λ (l : List Path). is_one_of i (ids_of parts (once l))) (append-nil paths) ∙ ids_once parts paths i))
        (λ i. ap (λ (l : List NodeId). is_one_of i (numbers_of l)) (writes_are ∙ writes_is) ∙ sym (ap (is_one_of i) written_are))
        (λ number i. ap (λ cs. changed_by number i cs (inode_at parts i)) (changes_are ∙ ap (λ (k : Maker). dropped old ++ chained k m x.group x.acl base (n ∷ names) (id ∷ ids)) same) ∙ same_after number i (inode_at parts i) apart
        ∙ sym (ap (λ ts. turned_by number i ts (inode_at parts i)) turns_on_are))

-- ---- a place

maker_same : (call : Call) (e : Entry) → IsCall call → e.request ≡ call.request.now → e.moment ≡ call.moment → maker_of call ≡ maker_for e
maker_same call e is asks comes_at =
    ap (λ (c : Caller). record { owner = c.id; moment = call.moment }) (sym (caller_is e call is asks)) ∙ ap (λ k. record { owner = (caller_of e).id; moment = k }) (sym comes_at)

module _ (held : Held) (shown : Shown) (call : Call) (new : NewNode) (is : IsCreate call new) (place : Place) (stage : IsPlace held shown call new None place)
    (ids : List NodeId) (next : ids ≡ next_ids call.fresh.pass call.fresh.used (length place.names.now)) (writes : List NodeId) (writes_is : writes ≡ to_write place.base.id place.replaced ids) where
  abbrev m : Making
  m = making_of call new

  abbrev x : Node
  x = node_of place.base.node

  -- what is written, and what a draft owes
  abbrev Owes : Path → List NodeId → Parts → Tree → Placed → Type 0
  Owes ns new_ids parts t en = (written_ids parts en ≡ numbers_of (to_write place.base.id place.replaced new_ids))
      × ((d : Draft) → d.reply ≡ closing call.request.now.close (success 201 (stamp_fields call.moment)) → d.reads.items ≡ place.reads.items → d.writes.items ≡ writes
      → d.changes.items ≡ dropped place.replaced ++ chained (maker_of call) m x.group x.acl place.base.id ns new_ids → d.drawn ≡ length new_ids → IsOfStep d parts t en)

  owes : (parts : Parts) (t : Tree) (en : Placed) → ArePossible shown call.fresh.pass call.fresh.used parts t → IsEntryOf call.request.now call.moment call.fresh t en
      → Owes place.names.now ids parts t en
  owes parts t en possible of =
      let there = stage.is_place parts t possible.stands possible.agrees in
      by_names place.names.now ids next there.coming.paths there.coming.read
      (step_is call new is t en.entry of.asks ∙ there.coming.comes en.entry of.asks of.comes_at)
      there.leads there.first stage.named writes_is
    where
      by_names : (ns : Path) (new_ids : List NodeId) → new_ids ≡ next_ids call.fresh.pass call.fresh.used (length ns) → (paths : List Path) → numbers_of place.reads.items ≡ ids_of parts paths
          → acts t en.entry en.entry.request.op ≡ reading paths (made en.entry m stage.above (replaced_path place.replaced call.path.now) (new_nodes en.entry m x stage.above ns))
          → follow parts 0 stage.above ≡ Some place.base.id.0 → LeadsTo parts stage.above ns place.replaced → call.path.now ≡ stage.above ++ ns
          → writes ≡ to_write place.base.id place.replaced new_ids → Owes ns new_ids parts t en
      by_names [] new_ids drawn paths read steps leads first named w = absurd first
      by_names (n ∷ ns) [] drawn paths read steps leads first named w =
          absurd (let l : 0 ≡ suc (length ns) = ap (λ (l : List NodeId). length l) drawn ∙ length_next call.fresh.pass call.fresh.used (suc (length ns)) in omega arith)
      by_names (n ∷ ns) (id ∷ more) drawn paths read steps leads first named w =
          let long : length more ≡ length ns = ap pred (ap (λ (l : List NodeId). length l) drawn ∙ length_next call.fresh.pass call.fresh.used (suc (length ns))) in
          let goes = steps ∙ ap (λ q. reading paths (made en.entry m stage.above (replaced_path place.replaced q) (new_nodes en.entry m x stage.above (n ∷ ns)))) named in (
            written_are en m stage.above n ns place.base.id x id more long place.replaced first.1 shown call.request.now call.moment call.fresh parts t possible of paths goes leads first.0 drawn,
            λ d replies reads_are writes_are changes_are draws.
                made_of_step en m stage.above n ns place.base.id x id more long place.replaced first.1 shown call.request.now call.moment call.fresh parts t possible of paths goes leads first.0 drawn
                d place.reads.items writes (maker_of call) (maker_same call en.entry is.is_call of.asks of.comes_at) is.is_call.sound read w replies reads_are writes_are changes_are draws,
          )

  -- all that is to be written is held exclusively, so the nodes are made
  pub made_draft : (d : Draft) → AreHeldToWrite held writes → IsMade call new place ids writes d → Answers held shown call (Ok d)
  made_draft d exclusive made_is = record {
    of_step = λ parts t en possible of. (owes parts t en possible of).1 d made_is.replies made_is.reads_are made_is.writes_are made_is.changes_are made_is.draws;
    held_exclusively = λ i h. exclusive i (sym (ap (λ (l : List NodeId). is_one_of i (numbers_of l)) made_is.writes_are) ∙ h);
    held_shared = λ i h. (stage.looked i (sym (ap (λ (l : List NodeId). is_one_of i (numbers_of l)) made_is.reads_are) ∙ h)).0;
    looked_at = λ i h. (stage.looked i (sym (ap (λ (l : List NodeId). is_one_of i (numbers_of l)) made_is.reads_are) ∙ h)).1;
  }

  -- a stripe of it is not, so it is needed
  pub write_need : (need : Need) → LacksStripe held writes need → Answers held shown call (Err (stop.Need need))
  write_need need lacks =
      written_need held shown call.request.now call.moment call.fresh writes need lacks (λ parts t en possible of i h.
      ap (is_one_of i) ((owes parts t en possible of).0 ∙ ap (λ (l : List NodeId). numbers_of l) (sym writes_is)) ∙ h)
