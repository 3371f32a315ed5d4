use Rattle.std.proofs.Common.{ℕ, ◌+◌, List, [], ◌∷◌, ◌++◌, length, None, true, ap, ◌∙◌}
use Rattle.namespace_model.specs.declared.field.Field.TheVariants.{ETag, LastModified}
use Rattle.namespace_model.specs.Append.{append_lease_fields}
use Rattle.namespace_model.specs.Replies.{success}
use Rattle.inode_tree.specs.declared.change.Edit.{Edit}
use Rattle.inode_tree.specs.declared.change.Edit.TheVariants as edit
use Rattle.inode_tree.specs.declared.meta.Meta.{Meta}
use Rattle.path_walk.specs.Calls.{entry_of}
use Rattle.op_data.proofs.LeaveLemmas.{stamped_with, stage_flush_edits, same_edits}
use Rattle.op_data.proofs.append.staged_and_flushed.Goals as goal

pub returns : goal.returns
returns c =
    same_edits _ _ _ _ _ _ _
    (c.in_ok-push-3.ensures.items ∙ ap (λ l. l ++ c.stamp.result ∷ [])
    (c.in_ok-push-2.ensures.items ∙ ap (λ l. l ++ edit.Flush (c.args.asked.now.position + length c.bytes.result.now) c.args.asked.now.retain ∷ [])
    (c.in_ok-push.ensures.items ∙ ap (λ l. l ++ edit.Stage c.args.asked.now.position c.in_ok-copy.field-0 ∷ []) c.new-edits.ensures.items))
    ∙ ap (λ (b : List ℕ). edit.Stage c.args.asked.now.position b ∷ edit.Flush (c.args.asked.now.position + length c.bytes.result.now) c.args.asked.now.retain ∷ c.stamp.result ∷ []) c.in_ok-copy.ensures
    ∙ ap (λ (b : List ℕ). edit.Stage c.args.asked.now.position c.args.call.now.request.now.body ∷ edit.Flush (c.args.asked.now.position + length b) c.args.asked.now.retain ∷ c.stamp.result ∷ []) c.bytes.ensures
    ∙ ap (λ (k : Edit). edit.Stage c.args.asked.now.position c.args.call.now.request.now.body ∷ edit.Flush (c.args.asked.now.position + length c.args.call.now.request.now.body) c.args.asked.now.retain ∷ k ∷ [])
    (c.stamp.ensures ∙ ap (λ (m : Meta). edit.Meta (stamped_with m c.args.lease c.args.call.now.moment) true) c.in_ok-meta.ensures))
    (c.success.ensures ∙ ap (success 202) (c.in_ok-put_lease_id.ensures ∙ ap (λ l. l ++ append_lease_fields c.args.asked.now.action c.args.lease)
    (c.in_ok-push-5.ensures.items ∙ ap (λ l. l ++ LastModified c.args.call.now.moment ∷ []) (c.in_ok-push-4.ensures.items ∙ ap (λ l. l ++ ETag None ∷ []) c.new-fields.ensures.items))))
    (stage_flush_edits (entry_of c.args.call.now) c.args.call.now.path.now c.args.node.now c.args.asked.now c.args.lease c.requires.file c.requires.body c.requires.allowed c.requires.flush c.requires.allowed_too)
