-- The draft by which new nodes come to stand, each below the one before it.
use Rattle.std.specs.Prelude.{◌≡◌, ℕ, Bool, true, false, List, [], ◌∷◌, ◌++◌, length, Option, Some, None, unwrap_or, if◌then◌else◌}
use Rattle.acl_text.specs.declared.acl.AclPair.{AclPair}
use Rattle.acl_text.specs.declared.perm.ModeBits.{ModeBits}
use Rattle.file_data.specs.FileRecord.{file_of}
use Rattle.namespace_model.specs.declared.op.Kind.{Kind}
use Rattle.namespace_model.specs.declared.op.Kind.TheVariants.{Directory}
use Rattle.namespace_model.specs.Access.{acl_inherit}
use Rattle.namespace_model.specs.Create.{Making, empty_of}
use Rattle.namespace_model.specs.Nodes as model
use Rattle.namespace_model.specs.Nodes.{Node, blank}
use Rattle.namespace_model.specs.Replies.{success, stamp_fields}
use Rattle.namespace_model.specs.Step.{closing}
use Rattle.namespace_model.specs.Trees.{Path}
use Rattle.inode_tree.specs.declared.change.Change.{Change}
use Rattle.inode_tree.specs.declared.change.Change.TheVariants as change
use Rattle.inode_tree.specs.declared.draft.Draft.{Draft}
use Rattle.inode_tree.specs.declared.id.NodeId.{NodeId}
use Rattle.inode_tree.specs.declared.inode.Content.{Content}
use Rattle.inode_tree.specs.declared.inode.Content.TheVariants as content
use Rattle.inode_tree.specs.declared.inode.Inode.{Inode}
use Rattle.inode_tree.specs.After.{meta_of}
use Rattle.inode_tree.specs.ChildLists.{no_children}
use Rattle.path_walk.specs.declared.call.Call.{Call}
use Rattle.op_create.specs.declared.nodes.NewNode.{NewNode}
use Rattle.op_create.specs.declared.place.Place.{Place}
use Rattle.op_create.specs.Creates.{making_of}

-- ---- new nodes

-- a node of this owner and group, with what it inherits from one with these lists, and without a lease
abbrev pub made_with : List ℕ → List ℕ → AclPair → Kind → Option ModeBits → Option ModeBits → List (List ℕ × List ℕ) → Node
made_with owner group acl kind permissions umask props = record blank {
  content = empty_of kind;
  owner = owner;
  group = group;
  acl = (acl_inherit acl kind permissions umask).0;
  sticky = (acl_inherit acl kind permissions umask).1;
  props = props;
}

-- a content without children
abbrev pub own_content : model.Content → Content
own_content model.directory = content.Directory no_children
own_content (model.file bytes staged) = content.File (file_of bytes staged)

-- the inode of a node with this moment, without children
abbrev pub new_inode : ℕ → Node → Inode
new_inode moment x = record { meta = meta_of (record x { moment = moment }); content = own_content x.content }

-- who makes new nodes, and when
pub record Maker : Type 0 where
  pub owner : List ℕ
  pub moment : ℕ

abbrev pub maker_of : Call → Maker
maker_of call = record { owner = call.caller.now.id; moment = call.moment }

-- what is below a directory with this group and these lists: the node that is asked for, or a directory that is missing on the way to it
abbrev pub next_node : Maker → Making → List ℕ → AclPair → Bool → Node
next_node maker m group acl last =
    if last then made_with maker.owner group acl m.kind m.permissions m.umask (unwrap_or m.props []) else made_with maker.owner group acl Directory None m.umask []

-- ---- changes

-- A directory leads to a new node by the first name, and that one to the next; each comes to stand under its id.
abbrev pub chained : Maker → Making → List ℕ → AclPair → NodeId → Path → List NodeId → List Change
chained maker m group acl above [] ids = []
chained maker m group acl above (n ∷ names) [] = []
chained maker m group acl above (n ∷ []) (id ∷ ids) = change.Link above n id ∷ change.Put id (new_inode maker.moment (next_node maker m group acl true)) ∷ []
chained maker m group acl above (n ∷ o ∷ names) (id ∷ ids) =
    change.Link above n id ∷ change.Put id (new_inode maker.moment (next_node maker m group acl false))
    ∷ chained maker m group (next_node maker m group acl false).acl id (o ∷ names) ids

-- what stood at the path goes
abbrev pub dropped : Option NodeId → List Change
dropped None = []
dropped (Some id) = change.Drop id ∷ []

-- ---- the draft

-- the directory, what stood at the path, and the new nodes
abbrev pub to_write : NodeId → Option NodeId → List NodeId → List NodeId
to_write base None new = base ∷ new
to_write base (Some old) new = base ∷ old ∷ new

-- a draft by which the nodes of the place get these ids
pub record IsMade (call : Call) (new : NewNode) (place : Place) (ids writes : List NodeId) (d : Draft) : Type 0 where
  pub replies : d.reply ≡ closing call.request.now.close (success 201 (stamp_fields call.moment))
  pub reads_are : d.reads.items ≡ place.reads.items
  pub writes_are : d.writes.items ≡ writes
  pub changes_are : d.changes.items
      ≡ dropped place.replaced ++ chained (maker_of call) (making_of call new) place.base.node.meta.group place.base.node.meta.acl place.base.id place.names.now ids
  pub draws : d.drawn ≡ length ids
