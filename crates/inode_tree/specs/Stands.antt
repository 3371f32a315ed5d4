-- When the parts stand for a tree: they show it, each id is reached by one path, and nothing else is kept.
use Rattle.std.specs.Prelude.{◌≡◌, ℕ, ◌%◌, length, slice_get, Some, IsSome}
use Rattle.namespace_model.specs.Nodes.{kind_of}
use Rattle.std.specs.FinMap as fin
use Rattle.namespace_model.specs.Trees.{Path, Tree, IsTree}
use Rattle.inode_tree.specs.Inodes.{BareInode, node_of}
use Rattle.inode_tree.specs.Changes.{Part}
use Rattle.inode_tree.specs.Parts.{Parts, inode_at, follow, id_at, tree_of}

-- there are 64 parts, and each keeps ids of its own stripe alone
pub record AreStriped (parts : Parts) : Type 0 where
  pub long : length parts ≡ 64
  pub own : (stripe id : ℕ) (part : Part) → slice_get parts stripe ≡ Some part → IsSome (fin.get part id) → id % 64 ≡ stripe

pub record Stands (parts : Parts) (t : Tree) : Type 0 where
  pub striped : AreStriped parts
  pub tree : IsTree t
  pub shown : tree_of parts ≡ t
  -- each id that is reached has an inode
  pub found : (p : Path) (id : ℕ) → follow parts 0 p ≡ Some id → IsSome (inode_at parts id)
  -- no id is reached by two paths
  pub once : (p q : Path) (id : ℕ) → follow parts 0 p ≡ Some id → follow parts 0 q ≡ Some id → p ≡ q
  -- each inode that is kept is reached by a path of at most 60 names
  pub kept : (id : ℕ) → IsSome (inode_at parts id) → (p : Path) × (id_at parts p ≡ Some id)
  -- the kind in the meta of an inode is that of its content, which the tree doesn't show
  pub kinds : (id : ℕ) (x : BareInode) → inode_at parts id ≡ Some x → x.meta.kind ≡ kind_of (node_of x)
