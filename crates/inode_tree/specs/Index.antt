-- An index of parts for a tree: for each path that is there its id. Its facts speak of one node and its links, and never follow more than
-- one link.
use Rattle.std.specs.Prelude.{◌≡◌, ℕ, List, [], ◌∷◌, ◌++◌, Option, Some, None, IsSome}
use Rattle.namespace_model.specs.Nodes.{kind_of}
use Rattle.namespace_model.specs.Trees.{Path, Tree, at}
use Rattle.inode_tree.specs.Inodes.{BareInode, node_of}
use Rattle.inode_tree.specs.Parts.{Parts, inode_at, child_of}

-- the node at a path is the inode of its id, which says its kind, and its links lead to what the index has one name below
pub record Places (parts : Parts) (t : Tree) (ids : Path → Option ℕ) (p : Path) (id : ℕ) : Type 0 where
  pub inode : BareInode
  pub found : inode_at parts id ≡ Some inode
  pub kind : inode.meta.kind ≡ kind_of (node_of inode)
  pub shows : at t p ≡ Some (node_of inode)
  pub links : (name : List ℕ) → child_of inode name ≡ ids (p ++ name ∷ [])

pub record IsIndex (parts : Parts) (t : Tree) (ids : Path → Option ℕ) : Type 0 where
  pub account : ids [] ≡ Some 0
  pub places : (p : Path) (id : ℕ) → ids p ≡ Some id → Places parts t ids p id
  pub nothing : (p : Path) → ids p ≡ None → at t p ≡ None
  pub below_nothing : (p : Path) (name : List ℕ) → ids p ≡ None → ids (p ++ name ∷ []) ≡ None
  pub once : (p q : Path) (id : ℕ) → ids p ≡ Some id → ids q ≡ Some id → p ≡ q
  pub kept : (id : ℕ) → IsSome (inode_at parts id) → (p : Path) × (ids p ≡ Some id)
