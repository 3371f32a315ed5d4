use Rattle.std.proofs.Common.{ℕ, List, [], ◌∷◌, ◌++◌, false, ap, ◌∙◌}
use Rattle.namespace_model.specs.Append.{append_lease_fields}
use Rattle.namespace_model.specs.Replies.{success}
use Rattle.inode_tree.specs.declared.change.Edit.{Edit}
use Rattle.inode_tree.specs.declared.change.Edit.TheVariants as edit
use Rattle.inode_tree.specs.declared.meta.Meta.{Meta}
use Rattle.path_walk.specs.Calls.{entry_of}
use Rattle.op_data.proofs.LeaveLemmas.{with_lease, stage_edits, edits_say}
use Rattle.op_data.proofs.append.staged.Goals as goal

pub returns : goal.returns
returns c =
    edits_say _ _ _ _ _ _ _ _
    (ap (λ (b : List ℕ). edit.Stage c.args.asked.now.position b ∷ c.keep.result ∷ []) c.in_ok-copy.ensures
    ∙ ap (λ (k : Edit). edit.Stage c.args.asked.now.position c.args.call.now.request.now.body ∷ k ∷ [])
    (c.keep.ensures ∙ ap (λ (m : Meta). edit.Meta (with_lease m c.args.lease) false) c.in_ok-meta.ensures))
    (c.success.ensures ∙ ap (success 202) (c.in_ok-put_lease_id.ensures ∙ ap (λ l. l ++ append_lease_fields c.args.asked.now.action c.args.lease) c.new-fields.ensures.items))
    (stage_edits (entry_of c.args.call.now) c.args.call.now.path.now c.args.node.now c.args.asked.now c.args.lease c.requires.file c.requires.body c.requires.allowed c.requires.plain)
    c.two_edits.ensures
