-- What a step comes to where nothing refuses it.
use Rattle.std.proofs.Common.{◌≡◌, ℕ, Bool, List, [], ◌++◌, Option, Some}
use Rattle.acl_text.specs.declared.acl.AclPair.{AclPair}
use Rattle.acl_text.specs.declared.perm.ModeBits.{ModeBits}
use Rattle.acl_text.specs.declared.scope.Scope.{Scope}
use Rattle.acl_text.specs.declared.who.Who.{Who}
use Rattle.head_text.specs.declared.range.Range.{Range}
use Rattle.lease_state.specs.declared.lease.AppendLease.{AppendLease}
use Rattle.lease_state.specs.declared.lease.Lease.{Lease}
use Rattle.lease_state.specs.declared.lease.LeaseAction.{LeaseAction}
use Rattle.namespace_model.specs.declared.op.BatchChange.{BatchChange}
use Rattle.namespace_model.specs.declared.op.Kind.{Kind}
use Rattle.namespace_model.specs.declared.op.Op.TheVariants as op
use Rattle.namespace_model.specs.declared.request.Entry.{Entry}
use Rattle.namespace_model.specs.Append.{appended}
use Rattle.namespace_model.specs.Create.{made_below}
use Rattle.namespace_model.specs.CreateFilesystem.{filesystem_made}
use Rattle.namespace_model.specs.Delete.{gone}
use Rattle.namespace_model.specs.DeleteFilesystem.{filesystem_gone}
use Rattle.namespace_model.specs.Flush.{flushed_to}
use Rattle.namespace_model.specs.GetAccess.{access_shown}
use Rattle.namespace_model.specs.GetFilesystem.{filesystem_shown}
use Rattle.namespace_model.specs.GetProperties.{properties_shown}
use Rattle.namespace_model.specs.LeaseNode.{lease_put}
use Rattle.namespace_model.specs.Nodes.{Node}
use Rattle.namespace_model.specs.Outcomes.{Outcome, answered}
use Rattle.namespace_model.specs.ReadFile.{part_read, whole_read}
use Rattle.namespace_model.specs.Rename.{shifted}
use Rattle.namespace_model.specs.Replies.{page_fields, success, with_body}
use Rattle.namespace_model.specs.SetAccess.{access_put}
use Rattle.namespace_model.specs.SetAccessRecursive.{batch_of, batch_page, batched}
use Rattle.namespace_model.specs.SetFilesystem.{filesystem_set}
use Rattle.namespace_model.specs.SetProperties.{properties_set}
use Rattle.namespace_model.specs.Step.{root_of}
use Rattle.namespace_model.specs.Trees.{Path, Tree, at, parent, subtree}
use Rattle.std.specs.Prelude.{Ok}

-- where new nodes begin: in the parent, or in a directory above it behind which a name is missing
pub record IsBase (path base : Path) : Type 0 where
  pub rest : Path
  pub parent_is : parent path ≡ base ++ rest

-- what comes of a success of each operation
pub data IsSuccess (t : Tree) (e : Entry) (o : Outcome) : Type 0 where
  a_filesystem_is_made : (path : Path) (props : Option (List (List ℕ × List ℕ))) → e.request.op ≡ op.CreateFilesystem path props → o ≡ filesystem_made e (root_of path) props → IsSuccess t e o
  a_filesystem_is_shown : (path : Path) (x : Node) → e.request.op ≡ op.GetFilesystem path → at t (root_of path) ≡ Some x → o ≡ filesystem_shown x → IsSuccess t e o
  a_filesystem_is_set : (path : Path) (props : List (List ℕ × List ℕ)) (x : Node) → e.request.op ≡ op.SetFilesystem path props → at t (root_of path) ≡ Some x → o ≡ filesystem_set e (root_of path) props x → IsSuccess t e o
  a_filesystem_goes : (path : Path) (x : Node) → e.request.op ≡ op.DeleteFilesystem path → o ≡ filesystem_gone (subtree t (root_of path)) x → IsSuccess t e o
  filesystems_are_listed : (prefix : List ℕ) (token : Option Path) (max : ℕ) (next : Option Path) (body : List ℕ) (ps : List Path) → e.request.op ≡ op.ListFilesystems prefix token max
      → o ≡ record (answered (with_body 200 (page_fields Option.None next) body)) { read = ps } → IsSuccess t e o
  paths_are_listed : (dir : Path) (recursive : Bool) (token : Option Path) (max : ℕ) (fs : Option (List ℕ)) (next : Option Path) (body : List ℕ) → e.request.op ≡ op.List dir recursive token max
      → o ≡ answered (with_body 200 (page_fields fs next) body) → IsSuccess t e o
  nodes_are_made : (path : Path) (kind : Kind) (permissions umask : Option ModeBits) (props : Option (List (List ℕ × List ℕ))) (base : Path) (x : Node) (replaced : List Path)
      → e.request.op ≡ op.Create path kind permissions umask props → IsBase path base
      → o ≡ made_below e (record { path = path; kind = kind; permissions = permissions; umask = umask; props = props }) base x replaced → IsSuccess t e o
  a_node_moves : (path source : Path) (props : Option (List (List ℕ × List ℕ))) (x : Node) (replaced : List Path) → e.request.op ≡ op.Rename path source props
      → o ≡ shifted e (record { source = source; path = path; props = props }) x replaced → IsSuccess t e o
  a_file_is_read : (path : Path) (range : Option Range) (x : Node) (bytes : List ℕ) → e.request.op ≡ op.Read path range → at t path ≡ Some x → o ≡ whole_read e x bytes → IsSuccess t e o
  a_part_is_read : (path : Path) (range : Option Range) (x : Node) (bytes : List ℕ) (from to : ℕ) → e.request.op ≡ op.Read path range → at t path ≡ Some x → o ≡ part_read e x bytes from to → IsSuccess t e o
  properties_are_shown : (path : Path) (status : Bool) (x : Node) → e.request.op ≡ op.GetProperties path status → at t path ≡ Some x → o ≡ properties_shown e status x → IsSuccess t e o
  access_is_shown : (path : Path) (x : Node) → e.request.op ≡ op.GetAccess path → at t path ≡ Some x → o ≡ access_shown x → IsSuccess t e o
  a_right_is_there : (path : Path) (want : ℕ) → e.request.op ≡ op.CheckAccess path want → o ≡ answered (success 200 []) → IsSuccess t e o
  a_file_is_appended_to : (path : Path) (position : ℕ) (flush retain : Bool) (action : AppendLease) (x : Node) (after : Lease) → e.request.op ≡ op.Append path position flush retain action → at t path ≡ Some x
      → o ≡ appended e path (record { position = position; flush = flush; retain = retain; action = action }) x after → IsSuccess t e o
  a_file_is_flushed : (path : Path) (position : ℕ) (retain : Bool) (x : Node) → e.request.op ≡ op.Flush path position retain → at t path ≡ Some x → o ≡ flushed_to e path position retain x → IsSuccess t e o
  properties_are_set : (path : Path) (props : List (List ℕ × List ℕ)) (x : Node) → e.request.op ≡ op.SetProperties path props → at t path ≡ Some x → o ≡ properties_set e path props x → IsSuccess t e o
  access_is_set : (path : Path) (owner group : Option (List ℕ)) (permissions : Option ModeBits) (acl : Option (List (Scope × Who × ℕ))) (x : Node) (pair : AclPair) → e.request.op ≡ op.SetAccess path owner group permissions acl
      → at t path ≡ Some x → o ≡ access_put e path (record { owner = owner; group = group; permissions = permissions; acl = acl }) x (Ok pair) → IsSuccess t e o
  a_batch_is_done : (path : Path) (change : BatchChange) (token : Option Path) (max : ℕ) (force : Bool) → e.request.op ≡ op.SetAccessRecursive path change token max force
      → o ≡ batched e path force token (batch_page t path token max) (batch_of t e change force (batch_page t path token max).paths) → IsSuccess t e o
  a_lease_is_acted_on : (path : Path) (action : LeaseAction) (x : Node) (after : Lease) → e.request.op ≡ op.Lease path action → at t path ≡ Some x → o ≡ lease_put e path action x (Ok after) → IsSuccess t e o
  nodes_go : (path : Path) (recursive : Bool) → e.request.op ≡ op.Delete path recursive → o ≡ gone (parent path) (subtree t path) → IsSuccess t e o
