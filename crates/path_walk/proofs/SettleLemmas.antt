-- The answer of a call where nodes are to be edited that were found.
use Rattle.std.proofs.Common.{List, [], ◌∷◌, Ok, Err}
use Rattle.namespace_model.specs.declared.reply.Reply.{Reply}
use Rattle.namespace_model.specs.Outcomes.{Outcome}
use Rattle.namespace_model.specs.Trees.{Path}
use Rattle.inode_tree.specs.declared.change.Edit.{Edit}
use Rattle.inode_tree.specs.declared.draft.Draft.{Draft}
use Rattle.inode_tree.specs.declared.draft.EvalStop.TheVariants as stop
use Rattle.inode_tree.specs.declared.id.NodeId.{NodeId}
use Rattle.inode_tree.specs.declared.need.Need.{Need}
use Rattle.inode_tree.specs.Inodes.{BareInode, node_of}
use Rattle.inode_tree.specs.Views.{Held, Shown}
use Rattle.path_walk.specs.declared.call.Call.{Call}
use Rattle.path_walk.specs.declared.edits.Verdict.{Verdict}
use Rattle.path_walk.specs.declared.edits.Verdict.TheVariants as verdict
use Rattle.path_walk.specs.Answers.{IsAnswered}
use Rattle.path_walk.specs.Batches.{ids_in, AreEdited}
use Rattle.path_walk.specs.Calls.{IsCall}
use Rattle.path_walk.specs.Edits.{IsEditOf, IsVerdict, IsEdited}
use Rattle.path_walk.specs.Holds.{AreHeldToWrite, LacksStripe}
use Rattle.path_walk.specs.declared.removals.Removal.{Removal}
use Rattle.path_walk.specs.Removals.{IsRemoved}
use Rattle.path_walk.specs.Settles.{Settles, SettlesAll, SettlesRemoval}
use Rattle.path_walk.proofs.BatchLemmas.{batch_draft, batch_need}
use Rattle.path_walk.proofs.RemovalLemmas.{removed_draft, removal_need}
use Rattle.path_walk.proofs.EditLemmas.{seat_answer, edited_draft, edit_need}

module _ (held : Held) (shown : Shown) (call : Call) (is : IsCall call) (reads : List NodeId) where
  pub answer_settles : (id : NodeId) (reply : Reply) (d : Draft) → IsAnswered call.request.now.close reply reads d → Settles held shown call reads id (verdict.Answer reply) (Ok d)
  answer_settles id reply d answered some x step seat comes =
      seat_answer held shown call.request.now call.moment call.fresh call.caller.now call.path.now some is.sound is.by step reads id x seat reply d comes answered

  -- what a verdict says where it is edits
  abbrev pub Says : Verdict → List Edit → Reply → Type 0
  Says v edits reply = (o : Outcome) (p : Path) (x : BareInode) → IsVerdict o p x v → IsEditOf o p x edits reply

  pub edits_settle : (id : NodeId) (v : Verdict) (edits : List Edit) (reply : Reply) (d : Draft) → Says v edits reply → AreHeldToWrite held (id ∷ []) → IsEdited call.request.now.close reply reads id edits d
      → Settles held shown call reads id v (Ok d)
  edits_settle id v edits reply d says exclusive ed some x step seat comes =
      edited_draft held shown call.request.now call.moment call.fresh call.caller.now call.path.now some is.sound is.by step reads id x seat edits reply
      (λ e asks at. says (some e (node_of x)) call.path.now x (comes e asks at)) d exclusive ed

  pub need_settles : (id : NodeId) (v : Verdict) (edits : List Edit) (reply : Reply) (n : Need) → Says v edits reply → LacksStripe held (id ∷ []) n → Settles held shown call reads id v (Err (stop.Need n))
  need_settles id v edits reply n says lacks some x step seat comes =
      edit_need held shown call.request.now call.moment call.fresh call.caller.now call.path.now some is.sound is.by step reads id x seat edits reply
      (λ e asks at. says (some e (node_of x)) call.path.now x (comes e asks at)) n lacks

  pub all_settle : (edits : List (NodeId × Edit)) (reply : Reply) (d : Draft) → AreHeldToWrite held (ids_in edits) → AreEdited call.request.now.close reply reads edits d → SettlesAll held shown call reads edits reply (Ok d)
  all_settle edits reply d exclusive ed looked comes = batch_draft held shown call.request.now call.moment call.fresh is.sound reads edits reply comes d looked exclusive ed

  pub need_settles_all : (edits : List (NodeId × Edit)) (reply : Reply) (n : Need) → LacksStripe held (ids_in edits) n → SettlesAll held shown call reads edits reply (Err (stop.Need n))
  need_settles_all edits reply n lacks looked comes = batch_need held shown call.request.now call.moment call.fresh is.sound reads edits reply comes n lacks

  pub removal_settles : (removal : Removal) (reply : Reply) (d : Draft) → AreHeldToWrite held (removal.base ∷ removal.taken.items) → IsRemoved call.request.now.close reply reads removal.base removal.name removal.taken.items d
      → SettlesRemoval held shown call reads removal reply (Ok d)
  removal_settles removal reply d exclusive removed looked comes =
      removed_draft held shown call.request.now call.moment call.fresh is.sound call.path.now reads removal reply comes d looked exclusive removed

  pub need_settles_removal : (removal : Removal) (reply : Reply) (n : Need) → LacksStripe held (removal.base ∷ removal.taken.items) n → SettlesRemoval held shown call reads removal reply (Err (stop.Need n))
  need_settles_removal removal reply n lacks looked comes = removal_need held shown call.request.now call.moment call.fresh is.sound call.path.now reads removal reply comes n lacks
