-- Where the way to the parent of a path ends: at the parent, or before it.
use Rattle.std.specs.Prelude.{◌≡◌, ◌≢◌, List, [], ◌∷◌, ◌++◌, Some}
use Rattle.namespace_model.specs.declared.caller.Caller.{Caller}
use Rattle.namespace_model.specs.Trees.{Path, Tree, parent}
use Rattle.namespace_model.specs.Ways.{reached, way_of, read_on}
use Rattle.inode_tree.specs.declared.id.NodeId.{NodeId}
use Rattle.inode_tree.specs.Footprints.{ids_of}
use Rattle.inode_tree.specs.Parts.{Parts, inode_at, follow}
use Rattle.inode_tree.specs.Promises.{numbers_of}
use Rattle.inode_tree.specs.Stands.{Stands}
use Rattle.inode_tree.specs.Views.{Held, Shown, Agrees}
use Rattle.path_walk.specs.declared.parent.Entered.{Entered}
use Rattle.path_walk.specs.declared.parent.Entered.TheVariants as entered
use Rattle.path_walk.specs.declared.parent.Parent.{Parent}
use Rattle.path_walk.specs.declared.stop.End.{End}
use Rattle.path_walk.specs.Visits.{end_of, AreLookedAt}

-- the way reaches the parent, which is this node, and these are the ids of what is read on it
pub record IsParentIn (parts : Parts) (t : Tree) (caller : Caller) (path : Path) (at : Parent) : Type 0 where
  pub passes : way_of t caller path ≡ reached
  pub read : numbers_of at.reads.items ≡ ids_of parts (read_on t caller path)
  pub leads : follow parts 0 (parent path) ≡ Some at.id.0
  pub there : inode_at parts at.id.0 ≡ Some at.node

-- So it is for all parts that stand for a tree and agree with what was shown, and what was read was looked at.
pub record IsParent (held : Held) (shown : Shown) (caller : Caller) (path : Path) (at : Parent) : Type 0 where
  pub named : path ≡ parent path ++ at.name.now ∷ []
  pub is_parent : (parts : Parts) (t : Tree) → Stands parts t → Agrees shown parts → IsParentIn parts t caller path at
  pub looked : AreLookedAt held shown at.reads.items

-- the way ends so before the parent, and these are the ids of what is read on it
pub record IsStopIn (parts : Parts) (t : Tree) (caller : Caller) (path : Path) (ids : List NodeId) (e : End) : Type 0 where
  pub stops : way_of t caller path ≢ reached
  pub ends : e ≡ end_of (way_of t caller path)
  pub read : numbers_of ids ≡ ids_of parts (read_on t caller path)

-- So it is for all parts that stand for a tree and agree with what was shown, and what was read was looked at.
pub record IsStop (held : Held) (shown : Shown) (caller : Caller) (path : Path) (ids : List NodeId) (e : End) : Type 0 where
  pub is_stop : (parts : Parts) (t : Tree) → Stands parts t → Agrees shown parts → IsStopIn parts t caller path ids e
  pub looked : AreLookedAt held shown ids

-- at the parent, or at an end before it
abbrev pub IsEntered : Held → Shown → Caller → Path → Entered → Type 0
IsEntered held shown caller path (entered.At at) = IsParent held shown caller path at
IsEntered held shown caller path (entered.Ended ids e) = IsStop held shown caller path ids.items e
