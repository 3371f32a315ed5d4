-- The draft by which a filesystem is made: its root comes to stand, and the account leads to it.
use Rattle.std.specs.Prelude.{◌≡◌, ℕ, List, [], ◌∷◌, Option}
use Rattle.namespace_model.specs.declared.op.Op.{Op}
use Rattle.namespace_model.specs.declared.op.Op.TheVariants as op
use Rattle.namespace_model.specs.CreateFilesystem.{new_root}
use Rattle.namespace_model.specs.Replies.{success, stamp_fields}
use Rattle.namespace_model.specs.Step.{closing}
use Rattle.inode_tree.specs.declared.change.Change.TheVariants as change
use Rattle.inode_tree.specs.declared.draft.Draft.{Draft}
use Rattle.inode_tree.specs.declared.id.NodeId.{NodeId}
use Rattle.inode_tree.specs.declared.inode.Content.TheVariants as content
use Rattle.inode_tree.specs.declared.inode.Inode.{Inode}
use Rattle.inode_tree.specs.After.{meta_of}
use Rattle.inode_tree.specs.ChildLists.{no_children}
use Rattle.path_walk.specs.declared.call.Call.{Call}
use Rattle.path_walk.specs.declared.parent.Parent.{Parent}

-- the operations of this evaluator
abbrev pub IsOfFilesystem : Op → Type 0
IsOfFilesystem (op.ListFilesystems prefix token max) = Unit {0}
IsOfFilesystem (op.CreateFilesystem path props) = Unit {0}
IsOfFilesystem (op.GetFilesystem path) = Unit {0}
IsOfFilesystem (op.SetFilesystem path props) = Unit {0}
IsOfFilesystem (op.DeleteFilesystem path) = Unit {0}
IsOfFilesystem other = ⊥

-- the inode of a new root: the model's root with this moment, and without children
abbrev pub root_inode : ℕ → Option (List (List ℕ × List ℕ)) → Inode
root_inode moment props = record {
  meta = meta_of (record (new_root props) { moment = moment });
  content = content.Directory no_children;
}

-- A draft by which the root gets this id, the only one that is drawn, and its parent, the account, leads to it by its
-- name. What was looked at is read, and both are written.
pub record IsMade (call : Call) (props : Option (List (List ℕ × List ℕ))) (at : Parent) (id : NodeId) (d : Draft)
    : Type 0 where
  pub replies : d.reply ≡ closing call.request.now.close (success 201 (stamp_fields call.moment))
  pub reads_these : d.reads.items ≡ at.reads.items
  pub writes_both : d.writes.items ≡ at.id ∷ id ∷ []
  pub changes_both : d.changes.items
      ≡ change.Put id (root_inode call.moment props) ∷ change.Link at.id at.name.now id ∷ []
  pub draws_one : d.drawn ≡ 1
