use Rattle.std.proofs.Common.{true, ap, subst, ◌∙◌}
use Rattle.acl_text.specs.Stops.{Stops}
use Rattle.namespace_model.specs.Access.{may_set_access}
use Rattle.namespace_model.specs.SetAccessRecursive.{changed_pair}
use Rattle.inode_tree.specs.Inodes.{BareInode, node_of}
use Rattle.acl_recursive.proofs.TurnLemmas.{chosen_false, chosen_true, turn_fault}
use Rattle.acl_recursive.proofs.turn.turn.Goals.{then-is_directory, else-is_directory}
use Rattle.acl_recursive.proofs.turn.turn.Goals as goal

pub returns-in-Err-Fault : goal.returns-in-Err-Fault
returns-in-Err-Fault c =
    turn_fault c.args.caller.now c.args.asked.now.change.now (node_of c.args.node.now) c.may_chmod.result c.if-is_directory.change.now _ _
    (c.may_chmod.ensures ∙ ap (λ o. may_set_access o c.args.caller.now) (ap (λ (y : BareInode). y.meta.owner) c.inode.ensures)) c.if-not-may_chmod.false
    (elim c.if-is_directory.branch [
      | then-is_directory w ↦ chosen_true c.args.asked.now.change.now _ c.if-is_directory.change.now c.is_directory.result _ c.is_directory.ensures w.if-is_directory.true (ap (λ r. r.now) w.change-is)
      | else-is_directory w ↦ chosen_false c.args.asked.now.change.now _ c.if-is_directory.change.now c.is_directory.result _ c.is_directory.ensures w.if-is_directory.false (ap (λ r. r.now) w.change-is ∙ c.requires.files)
    ])
    (ap (λ (y : BareInode). y.meta.acl) c.inode.ensures) (subst (λ s. Stops s (changed_pair c.if-is_directory.change.now true c.inode.result.now.meta.acl)) c.in-Err-Fault.field-0-is c.in-Err-Fault.ensures)
