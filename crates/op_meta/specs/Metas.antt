-- What comes of a call on what is kept of a node besides its children and its bytes, by the node of its path.
use Rattle.std.specs.Prelude.{ℕ, not, ◌&&◌, unwrap_or}
use Rattle.acl_text.specs.declared.acl.AclPair.{AclPair}
use Rattle.lease_state.specs.LeaseTable.{lease_after_write}
use Rattle.namespace_model.specs.declared.code.Code.TheVariants.{InvalidAcl, NotBuiltYet}
use Rattle.namespace_model.specs.declared.op.Op.{Op}
use Rattle.namespace_model.specs.declared.op.Op.TheVariants as op
use Rattle.namespace_model.specs.declared.request.Entry.{Entry}
use Rattle.namespace_model.specs.CheckAccess.{checked_on}
use Rattle.namespace_model.specs.GetAccess.{access_of}
use Rattle.namespace_model.specs.GetProperties.{properties_of}
use Rattle.namespace_model.specs.LeaseNode.{lease_node}
use Rattle.namespace_model.specs.Nodes.{Node, is_directory}
use Rattle.namespace_model.specs.Outcomes.{Outcome, refused, unless}
use Rattle.namespace_model.specs.Refusals.{is_unmet, lease_refuses, refuse_if}
use Rattle.namespace_model.specs.SetAccess as model
use Rattle.namespace_model.specs.SetAccess.{access_put, has_default, pair_set, set_access_of, sticky_set}
use Rattle.namespace_model.specs.SetProperties.{set_properties_of}
use Rattle.namespace_model.specs.Trees.{Path}
use Rattle.inode_tree.specs.declared.meta.Meta.{Meta}
use Rattle.inode_tree.specs.Inodes.{BareInode, node_of}
use Rattle.path_walk.specs.declared.call.Call.{Call}
use Rattle.path_walk.specs.declared.edits.Verdict.{Verdict}
use Rattle.path_walk.specs.Edits.{IsVerdict}
use Rattle.path_walk.specs.Calls.{entry_of}
use Rattle.op_meta.specs.declared.access.Setting.{Setting}

-- the operations of this evaluator
abbrev pub IsOfMeta : Op → Type 0
IsOfMeta (op.GetProperties path status) = Unit {0}
IsOfMeta (op.GetAccess path) = Unit {0}
IsOfMeta (op.CheckAccess path want) = Unit {0}
IsOfMeta (op.SetProperties path props) = Unit {0}
IsOfMeta (op.SetAccess path owner group permissions acl) = Unit {0}
IsOfMeta (op.Lease path action) = Unit {0}
IsOfMeta other = ⊥

-- ---- what comes of the node

-- what comes of the node at a path by one of them; another operation isn't asked
abbrev pub comes_of : Entry → Path → Op → Node → Outcome
comes_of e p (op.GetProperties path status) x = properties_of e status x
comes_of e p (op.GetAccess path) x = access_of e x
comes_of e p (op.CheckAccess path want) x = checked_on e p want x
comes_of e p (op.SetProperties path props) x = set_properties_of e p props x
comes_of e p (op.SetAccess path owner group permissions acl) x =
    set_access_of e p (record { owner = owner; group = group; permissions = permissions; acl = acl }) x
comes_of e p (op.Lease path action) x = lease_node e p action x
comes_of e p other x = refused NotBuiltYet

-- the verdict says what comes of the node
abbrev pub IsVerdictOfNode : Call → BareInode → Verdict → Type 0
IsVerdictOfNode call x v = IsVerdict (comes_of (entry_of call) call.path.now call.request.now.op (node_of x)) call.path.now x v

-- ---- owner, group, permissions and lists

-- the same setting in the model's record
abbrev pub setting_of : Setting → model.Setting
setting_of s = record { owner = s.owner.now; group = s.group.now; permissions = s.permissions.now; acl = s.acl.now }

-- once its caller may set them, a call asks the conditions, then the lease, and of a file that no default entries are given
abbrev pub access_set : Entry → Path → model.Setting → Node → Outcome
access_set e p s x =
    unless (is_unmet e x)
    (unless (lease_refuses e e.request.lease x)
    (unless (refuse_if (not (is_directory x) && has_default s.acl) InvalidAcl)
    (access_put e p s x (pair_set s x.acl))))

-- what is kept of a node from then on, but for the stamp
abbrev pub access_meta : model.Setting → AclPair → ℕ → Meta → Meta
access_meta s pair moment m = record m {
  owner = unwrap_or s.owner m.owner;
  group = unwrap_or s.group m.group;
  acl = pair;
  sticky = sticky_set s.permissions m.sticky;
  lease = lease_after_write m.lease moment;
}
