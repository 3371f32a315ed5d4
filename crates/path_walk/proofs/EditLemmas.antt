-- A draft by which nodes are edited in their places is that of its step.
use Rattle.std.proofs.Common.{◌≡◌, ℕ, ◌==◌, Bool, true, false, cond, List, [], ◌∷◌, ◌++◌, map, length, Option, Some, None, option_map, unwrap_or, Ok, refl, ap, sym, ◌∙◌, append-nil}
use Rattle.std.specs.Cmp.{unsigned_Decides}
use Rattle.namespace_model.specs.declared.caller.Caller.{Caller}
use Rattle.namespace_model.specs.declared.reply.Reply.{Reply}
use Rattle.namespace_model.specs.declared.request.Entry.{Entry}
use Rattle.namespace_model.specs.declared.request.Request.{Request}
use Rattle.namespace_model.specs.Effects.{Put, put_by}
use Rattle.namespace_model.specs.Looks as looks
use Rattle.namespace_model.specs.Nodes.{Node, kind_of, kind_of_content}
use Rattle.namespace_model.specs.Outcomes.{Outcome, answered, reading, edited, once, without_repeats}
use Rattle.namespace_model.specs.Refusals.{caller_of, nobody}
use Rattle.namespace_model.specs.Sound.{IsSound}
use Rattle.namespace_model.specs.Step.{acts, outcome, with_close}
use Rattle.namespace_model.specs.Trees.{Path, Tree}
use Rattle.namespace_model.proofs.Lookups.{same_path}
use Rattle.inode_tree.specs.declared.change.Change.TheVariants as change
use Rattle.inode_tree.specs.declared.change.Edit.{Edit}
use Rattle.inode_tree.specs.declared.change.Edit.TheVariants as edit
use Rattle.inode_tree.specs.declared.draft.Draft.{Draft}
use Rattle.inode_tree.specs.declared.fresh.Fresh.{Fresh}
use Rattle.inode_tree.specs.declared.id.NodeId.{NodeId}
use Rattle.inode_tree.specs.declared.meta.Meta.{Meta}
use Rattle.inode_tree.specs.declared.need.Need.{Need}
use Rattle.inode_tree.specs.declared.placed.Placed.{Placed}
use Rattle.inode_tree.specs.After.{stays_at, turns_by, turns_on, inode_with, meta_of, content_with, with_id, known, drawn_ids, outcome_on}
use Rattle.file_data.specs.FileRecord.{FileRecord, file_of, stage_answer, staged_with, flush_answer, flushed}
use Rattle.namespace_model.specs.Nodes as model
use Rattle.inode_tree.specs.Changes.{edited as inode_edited, asked_by, is_meta_of, where_allowed, staged_in, flushed_in}
use Rattle.inode_tree.specs.Drawing.{next_ids}
use Rattle.inode_tree.specs.Footprints.{ids_of, written_ids}
use Rattle.inode_tree.specs.Inodes.{BareContent, directory, file, BareInode, links_in, node_content, node_of}
use Rattle.inode_tree.specs.Parts.{Parts, inode_at, id_at}
use Rattle.inode_tree.specs.Promises.{IsEntryOf, numbers_of, is_one_of, IsOfStep, IsDraft, IsNeed}
use Rattle.inode_tree.specs.Views.{Held, Shown, ArePossible}
use Rattle.inode_tree.proofs.FrameLemmas.{short_id}
use Rattle.inode_tree.proofs.IndexLemmas.{reached_short}
use Rattle.inode_tree.proofs.PromiseLemmas.{of_step, outcome_there, changed_by}
use Rattle.inode_tree.proofs.TurnLemmas.{turned_by}
use Rattle.path_walk.specs.Answers.{IsAnswered}
use Rattle.path_walk.specs.Edits.{edited_by, Leave, IsEditOf, IsSeatIn, IsSeat, IsEdited}
use Rattle.path_walk.specs.Finds.{read_to}
use Rattle.path_walk.specs.Holds.{AreHeldToWrite, LacksStripe}
use Rattle.path_walk.proofs.AnswerLemmas.{answer_is_draft}
use Rattle.path_walk.proofs.HoldLemmas.{written_need}
use Rattle.path_walk.proofs.LookAnswers.{node_is}
use Rattle.path_walk.proofs.SetLemmas.{ids_once}

-- ---- one meta

meta_is : (c : BareContent) (m : Meta) (y : Node) → m ≡ meta_of y → y.content ≡ node_content c → is_meta_of c m ≡ true
meta_is (directory links) m y same content = ap (λ (k : Meta). is_meta_of (directory links) k) same ∙ ap (λ (n : Node). is_meta_of (directory links) (meta_of (record y { content = n.content }))) (ap (λ k. record y { content = k }) content)
meta_is (file bytes staged) m y same content = ap (λ (k : Meta). is_meta_of (file bytes staged) k) same ∙ ap (λ (n : Node). is_meta_of (file bytes staged) (meta_of (record y { content = n.content }))) (ap (λ k. record y { content = k }) content)

content_is : (c : BareContent) → content_with (node_content c) (links_in c) ≡ c
content_is (directory links) = refl
content_is (file bytes staged) = refl

-- the kind of a node is that of its content
same_kind : (c : BareContent) (x : BareInode) (y : Node) → x.content ≡ c → y.content ≡ node_content c → kind_of (node_of x) ≡ kind_of y
same_kind c x y here there = ap (λ k. kind_of_content (node_content k)) here ∙ sym (ap kind_of_content there)

-- the meta of a node that is put in place, with the same content, asked for the number where it is stamped
pub meta_leaves : (x : BareInode) (m : Meta) (put : Put) → m ≡ record (meta_of put.node) { kind = x.meta.kind } → put.node.content ≡ node_content x.content
    → Leave (edit.Meta m put.stamped ∷ []) put x
meta_leaves x m put same content kind number =
    ap (λ b. cond b (asked_by number put.stamped (record x { meta = m })) x) (meta_is x.content m put.node the_meta content)
    ∙ ap (λ (k : Meta). asked_by number put.stamped (record x { meta = k })) the_meta
    ∙ by_stamp put.stamped
  where
    the_meta : m ≡ meta_of put.node
    the_meta = same ∙ ap (λ k. record (meta_of put.node) { kind = k }) (kind ∙ same_kind x.content x put.node refl content)

    by_stamp : (b : Bool) → asked_by number b (record x { meta = meta_of put.node }) ≡ inode_with (put_by number (record { node = put.node; stamped = b })) (links_in x.content)
    by_stamp true = ap (λ (c : BareContent). record { meta = meta_of (record put.node { number = number }); content = c }) (sym (ap (λ k. content_with k (links_in x.content)) content ∙ content_is x.content))
    by_stamp false = ap (λ (c : BareContent). record { meta = meta_of put.node; content = c }) (sym (ap (λ k. content_with k (links_in x.content)) content ∙ content_is x.content))

-- ---- data of a file

-- an edit of a file's data that is allowed, and then the meta
module _ (x : BareInode) (bytes : List ℕ) (staged : List (ℕ × List ℕ)) (is_file : x.content ≡ file bytes staged) (m : Meta) (put : Put) (same : m ≡ record (meta_of put.node) { kind = x.meta.kind }) where
  file_then_meta : (new_bytes : List ℕ) (new_staged : List (ℕ × List ℕ)) → put.node.content ≡ model.file new_bytes new_staged → x.meta.kind ≡ kind_of (node_of x) → (number : ℕ)
      → inode_edited number (edit.Meta m put.stamped) (record x { content = file new_bytes new_staged }) ≡ inode_with (put_by number put) (links_in x.content)
  file_then_meta new_bytes new_staged content kind number =
      meta_leaves (record x { content = file new_bytes new_staged }) m put same content (kind ∙ ap (λ k. kind_of_content (node_content k)) is_file) number
      ∙ ap (λ (c : BareContent). inode_with (put_by number put) (links_in c)) (sym is_file)

  pub stage_leaves : (position : ℕ) (piece : List ℕ) → (length piece == 0) ≡ false → stage_answer (file_of bytes staged) position piece ≡ Ok tt
      → put.node.content ≡ model.file (staged_with (file_of bytes staged) position piece).committed (staged_with (file_of bytes staged) position piece).staged
      → Leave (edit.Stage position piece ∷ edit.Meta m put.stamped ∷ []) put x
  stage_leaves position piece some allowed content kind number =
      ap (λ (c : BareContent). inode_edited number (edit.Meta m put.stamped) (record x { content = staged_in position piece c })) is_file
      ∙ ap (λ b. inode_edited number (edit.Meta m put.stamped) (record x { content = cond b (file bytes staged) (where_allowed (stage_answer (file_of bytes staged) position piece) (staged_with (file_of bytes staged) position piece) (file bytes staged)) })) some
      ∙ ap (λ r. inode_edited number (edit.Meta m put.stamped) (record x { content = where_allowed r (staged_with (file_of bytes staged) position piece) (file bytes staged) })) allowed
      ∙ file_then_meta (staged_with (file_of bytes staged) position piece).committed (staged_with (file_of bytes staged) position piece).staged content kind number

  pub flush_leaves : (position : ℕ) (retain : Bool) → flush_answer (file_of bytes staged) position ≡ Ok tt
      → put.node.content ≡ model.file (flushed (file_of bytes staged) position retain).committed (flushed (file_of bytes staged) position retain).staged
      → Leave (edit.Flush position retain ∷ edit.Meta m put.stamped ∷ []) put x
  flush_leaves position retain allowed content kind number =
      ap (λ (c : BareContent). inode_edited number (edit.Meta m put.stamped) (record x { content = flushed_in position retain c })) is_file
      ∙ ap (λ r. inode_edited number (edit.Meta m put.stamped) (record x { content = where_allowed r (flushed (file_of bytes staged) position retain) (file bytes staged) })) allowed
      ∙ file_then_meta (flushed (file_of bytes staged) position retain).committed (flushed (file_of bytes staged) position retain).staged content kind number

  -- a piece is staged, and then the file is flushed
  module _ (position : ℕ) (piece : List ℕ) (end : ℕ) (retain : Bool) where
    abbrev pub then_staged : FileRecord
    then_staged = file_of (staged_with (file_of bytes staged) position piece).committed (staged_with (file_of bytes staged) position piece).staged

    pub stage_flush_leaves : (length piece == 0) ≡ false → stage_answer (file_of bytes staged) position piece ≡ Ok tt → flush_answer then_staged end ≡ Ok tt
        → put.node.content ≡ model.file (flushed then_staged end retain).committed (flushed then_staged end retain).staged
        → Leave (edit.Stage position piece ∷ edit.Flush end retain ∷ edit.Meta m put.stamped ∷ []) put x
    stage_flush_leaves some allowed allowed_too content kind number =
        ap (λ (c : BareContent). inode_edited number (edit.Meta m put.stamped) (record x { content = flushed_in end retain (staged_in position piece c) })) is_file
        ∙ ap (λ b. inode_edited number (edit.Meta m put.stamped) (record x { content = flushed_in end retain (cond b (file bytes staged) (where_allowed (stage_answer (file_of bytes staged) position piece) (staged_with (file_of bytes staged) position piece) (file bytes staged))) })) some
        ∙ ap (λ r. inode_edited number (edit.Meta m put.stamped) (record x { content = flushed_in end retain (where_allowed r (staged_with (file_of bytes staged) position piece) (file bytes staged)) })) allowed
        ∙ ap (λ r. inode_edited number (edit.Meta m put.stamped) (record x { content = where_allowed r (flushed then_staged end retain) (file then_staged.committed then_staged.staged) })) allowed_too
        ∙ file_then_meta (flushed then_staged end retain).committed (flushed then_staged end retain).staged content kind number

-- ---- what the changes leave

edits_leave : (number j : ℕ) (id : NodeId) (edits : List Edit) (before : Option BareInode)
    → changed_by number j (map (λ (e : Edit). change.Edit id e) edits) before ≡ cond (id.0 == j) (option_map (edited_by number edits) before) before
edits_leave number j id [] before = by_test (id.0 == j) before
  where
    by_test : (b : Bool) (o : Option BareInode) → o ≡ cond b (option_map (edited_by number []) o) o
    by_test true None = refl
    by_test true (Some x) = refl
    by_test false o = refl
edits_leave number j id (e ∷ edits) before =
    edits_leave number j id edits (cond (id.0 == j) (option_map (inode_edited number e) before) before) ∙ by_test (id.0 == j) before
  where
    by_test : (b : Bool) (o : Option BareInode) → cond b (option_map (edited_by number edits) (cond b (option_map (inode_edited number e) o) o)) (cond b (option_map (inode_edited number e) o) o)
        ≡ cond b (option_map (edited_by number (e ∷ edits)) o) o
    by_test true None = refl
    by_test true (Some x) = refl
    by_test false o = refl

-- ---- the draft

module _ (held : Held) (shown : Shown) (request : Request) (moment : ℕ) (fresh : Fresh) (caller : Caller) (path : Path) (some : Entry → Node → Outcome) (sound : IsSound request) (by : request.caller ≡ Some caller)
    (step : (t : Tree) (e : Entry) → e.request ≡ request → acts t e e.request.op ≡ looks.found t e path (some e))
    (reads : List NodeId) (id : NodeId) (x : BareInode) (sits : IsSeat held shown caller path reads id x) where
  -- the step reads what leads to the node, and then comes what comes of it
  step_there : (parts : Parts) (t : Tree) (e : Placed) → ArePossible shown fresh.pass fresh.used parts t → IsEntryOf request moment fresh t e
      → acts t e.entry e.entry.request.op ≡ reading (read_to t caller path) (some e.entry (node_of x))
  step_there parts t e possible of =
      let seat = sits.is_seat parts t possible.stands possible.agrees in
      let by_it : caller_of e.entry ≡ caller = ap (λ (r : Request). unwrap_or r.caller nobody) of.asks ∙ ap (λ c. unwrap_or c nobody) by in
      step t e.entry of.asks ∙ node_is t e.entry path (some e.entry) caller by_it (node_of x) seat.passes seat.holds

  -- an answer
  pub seat_answer : (reply : Reply) (d : Draft) → ((e : Entry) → e.request ≡ request → e.moment ≡ moment → some e (node_of x) ≡ answered reply)
      → IsAnswered request.close reply reads d → IsDraft held shown request moment fresh d
  seat_answer reply d comes is =
      answer_is_draft held shown request moment fresh reply reads d sound sits.looked is (λ parts t e possible of. (
        read_to t caller path,
        step_there parts t e possible of ∙ ap (reading (read_to t caller path)) (comes e.entry of.asks of.comes_at),
        λ i. ap (λ (l : List ℕ). is_one_of i l) (sits.is_seat parts t possible.stands possible.agrees).read,
      ))

  module _ (edits : List Edit) (reply : Reply) (comes : (e : Entry) → e.request ≡ request → e.moment ≡ moment → IsEditOf (some e (node_of x)) path x edits reply) where
    module _ (parts : Parts) (t : Tree) (e : Placed) (possible : ArePossible shown fresh.pass fresh.used parts t) (of : IsEntryOf request moment fresh t e) where
      is_edit : IsEditOf (some e.entry (node_of x)) path x edits reply
      is_edit = comes e.entry of.asks of.comes_at

      abbrev put : Put
      put = is_edit.0

      seat : IsSeatIn parts t caller path reads id x
      seat = sits.is_seat parts t possible.stands possible.agrees

      abbrev the_outcome : Outcome
      the_outcome = without_repeats (with_close request.close (reading (read_to t caller path) (edited path put reply)))

      outcome_is : outcome t e.entry ≡ the_outcome
      unfolding outcome
      outcome_is =
          ap (λ (o : Outcome). without_repeats (with_close e.entry.request.close o)) (step_there parts t e possible of ∙ ap (reading (read_to t caller path)) is_edit.1)
          ∙ ap (λ (r : Request). without_repeats (with_close r.close (reading (read_to t caller path) (edited path put reply)))) of.asks

      on_is : outcome_on parts e ≡ the_outcome
      on_is = outcome_there shown request moment fresh parts t e possible of ∙ outcome_is

      none_drawn : drawn_ids e ≡ []
      none_drawn = ap (λ (ids : List NodeId). map (λ (i : NodeId). i.0) ids) (of.draws ∙ ap (λ (o : Outcome). next_ids fresh.pass fresh.used (length o.fresh)) outcome_is)

      id_is : id_at parts path ≡ Some id.0
      id_is = short_id parts path (reached_short parts t possible.stands path id.0 seat.leads) ∙ seat.leads

      turns_are : turns_on parts e ≡ stays_at id.0 path (Some put) [] ∷ []
      turns_are =
          ap (λ (o : Outcome). turns_by o (known parts o.written) (drawn_ids e)) on_is
          ∙ ap (turns_by the_outcome (known parts (path ∷ []))) none_drawn
          ∙ ap (λ (o : Option ℕ). turns_by the_outcome (with_id path o ++ []) []) id_is
          ∙ ap (λ b. stays_at id.0 path (cond b (Some put) None) [] ∷ []) (same_path path)

      written_are : written_ids parts e ≡ id.0 ∷ []
      written_are =
          ap (λ (o : Outcome). ids_of parts o.written ++ drawn_ids e) on_is ∙ ap (λ l. ids_of parts (path ∷ []) ++ l) none_drawn
          ∙ ap (λ (o : Option ℕ). map (λ (y : Path × ℕ). y.1) (with_id path o ++ []) ++ []) id_is

      edited_of_step : (d : Draft) → IsEdited request.close reply reads id edits d → IsOfStep d parts t e
      edited_of_step d ed =
          of_step shown request moment fresh parts t e possible of d sound
          (ed.replies ∙ sym (ap (λ (o : Outcome). o.reply) outcome_is))
          (ed.draws_none ∙ sym (ap (λ (o : Outcome). length o.fresh) outcome_is))
          (λ i. ap (λ (l : List NodeId). is_one_of i (numbers_of l)) ed.reads_these ∙ ap (is_one_of i) seat.read
          ∙ sym (ap (λ (o : Outcome). is_one_of i (ids_of parts o.read)) on_is ∙ ap (λ (l : List Path). is_one_of i (ids_of parts (once l))) (append-nil (read_to t caller path)) ∙ ids_once parts (read_to t caller path) i))
          (λ i. ap (λ (l : List NodeId). is_one_of i (numbers_of l)) ed.writes_it ∙ sym (ap (is_one_of i) written_are))
          (λ number i. ap (λ cs. changed_by number i cs (inode_at parts i)) ed.changes_it ∙ edits_leave number i id edits (inode_at parts i)
          ∙ by_test number i (id.0 == i) refl ∙ sym (ap (λ ts. turned_by number i ts (inode_at parts i)) turns_are))
        where
          by_test : (number i : ℕ) (b : Bool) → (id.0 == i) ≡ b → cond (id.0 == i) (option_map (edited_by number edits) (inode_at parts i)) (inode_at parts i) ≡ turned_by number i (stays_at id.0 path (Some put) [] ∷ []) (inode_at parts i)
          by_test number i true same =
              let there : inode_at parts i ≡ Some x = ap (inode_at parts) (sym ((unsigned_Decides id.0 i).0 same)) ∙ seat.there in
              ap (λ o. cond (id.0 == i) (option_map (edited_by number edits) o) o) there
              ∙ ap (λ y. cond (id.0 == i) (Some y) (Some x)) (is_edit.2 (possible.stands.kinds id.0 x seat.there) number)
              ∙ sym (ap (λ o. turned_by number i (stays_at id.0 path (Some put) [] ∷ []) o) there)
          by_test number i false other = ap (λ b. cond b (option_map (edited_by number edits) (inode_at parts i)) (inode_at parts i)) other
              ∙ sym (ap (λ b. cond b (option_map (λ y. inode_with (put_by number put) (links_in y.content)) (inode_at parts i)) (inode_at parts i)) other)

    -- the node is held exclusively, so it is edited
    pub edited_draft : (d : Draft) → AreHeldToWrite held (id ∷ []) → IsEdited request.close reply reads id edits d → IsDraft held shown request moment fresh d
    edited_draft d exclusive ed = record {
      of_step = λ parts t e possible of. edited_of_step parts t e possible of d ed;
      held_exclusively = λ i h. exclusive i (sym (ap (λ (l : List NodeId). is_one_of i (numbers_of l)) ed.writes_it) ∙ h);
      held_shared = λ i h. (sits.looked i (sym (ap (λ (l : List NodeId). is_one_of i (numbers_of l)) ed.reads_these) ∙ h)).0;
      looked_at = λ i h. (sits.looked i (sym (ap (λ (l : List NodeId). is_one_of i (numbers_of l)) ed.reads_these) ∙ h)).1;
    }

    -- its stripe isn't, and is needed
    pub edit_need : (n : Need) → LacksStripe held (id ∷ []) n → IsNeed held shown request moment fresh n
    edit_need n lacks = written_need held shown request moment fresh (id ∷ []) n lacks (λ parts t e possible of i h. ap (is_one_of i) (written_are parts t e possible of) ∙ h)
