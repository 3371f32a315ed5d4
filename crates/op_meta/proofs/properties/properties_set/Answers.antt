use Rattle.std.proofs.Common.{ℕ, List, [], ◌∷◌, true, ap, ◌∙◌}
use Rattle.lease_state.specs.declared.lease.Lease.{Lease}
use Rattle.lease_state.specs.LeaseTable.{lease_after_write}
use Rattle.inode_tree.specs.declared.change.Edit.{Edit}
use Rattle.inode_tree.specs.declared.change.Edit.TheVariants as edit
use Rattle.inode_tree.specs.declared.meta.Meta.{Meta}
use Rattle.path_walk.specs.Calls.{entry_of}
use Rattle.op_meta.proofs.EditLemmas.{with_properties, properties_edit, edits_say}
use Rattle.op_meta.proofs.properties.properties_set.Goals as goal

pub returns : goal.returns
returns c =
    edits_say _ _ _ _ _ _ _ _
    (ap (λ (k : Edit). k ∷ [])
    (c.stamp.ensures
    ∙ ap (λ (l : Lease). edit.Meta (with_properties c.in_ok-meta.meta c.in_ok-meta-2.field-0 l c.args.call.now.moment) true) c.after_write-meta.ensures
    ∙ ap (λ (ps : List (List ℕ × List ℕ)). edit.Meta (with_properties c.in_ok-meta.meta ps (lease_after_write c.in_ok-meta.meta.lease c.args.call.now.moment) c.args.call.now.moment) true) c.in_ok-meta-2.ensures
    ∙ ap (λ (m : Meta). edit.Meta (with_properties m c.args.props.now (lease_after_write m.lease c.args.call.now.moment) c.args.call.now.moment) true) c.in_ok-meta.ensures))
    c.in_ok-reply.ensures
    (properties_edit (entry_of c.args.call.now) c.args.call.now.path.now c.args.node.now c.args.props.now)
    c.one_edit.ensures
