use Rattle.std.proofs.Common.{[], ◌∷◌, true, ap, ◌∙◌}
use Rattle.lease_state.specs.declared.lease.Lease.{Lease}
use Rattle.lease_state.specs.LeaseTable.{lease_after_write}
use Rattle.inode_tree.specs.declared.change.Edit.{Edit}
use Rattle.inode_tree.specs.declared.change.Edit.TheVariants as edit
use Rattle.inode_tree.specs.declared.meta.Meta.{Meta}
use Rattle.path_walk.specs.Calls.{entry_of}
use Rattle.op_data.proofs.LeaveLemmas.{stamped_with, flush_edits, edits_say}
use Rattle.op_data.proofs.flush.flushed.Goals as goal

pub returns : goal.returns
returns c =
    edits_say _ _ _ _ _ _ _ _
    (ap (λ (k : Edit). edit.Flush c.args.position c.args.retain ∷ k ∷ [])
    (c.stamp.ensures
    ∙ ap (λ (l : Lease). edit.Meta (stamped_with c.in_ok-meta.meta l c.args.call.now.moment) true) c.after_write-meta.ensures
    ∙ ap (λ (m : Meta). edit.Meta (stamped_with m (lease_after_write m.lease c.args.call.now.moment) c.args.call.now.moment) true) c.in_ok-meta.ensures))
    c.in_ok-stamped.ensures
    (flush_edits (entry_of c.args.call.now) c.args.call.now.path.now c.args.node.now c.args.position c.args.retain c.requires.file c.requires.allowed)
    c.two_edits.ensures
