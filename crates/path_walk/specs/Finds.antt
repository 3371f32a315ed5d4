-- What stands at a path, behind the way to its parent.
use Rattle.std.specs.Prelude.{◌≡◌, ◌≢◌, ℕ, ◌<◌, true, false, List, [], ◌∷◌, ◌++◌, Option, Some, None}
use Rattle.lock_core.specs.declared.object.LockMode.TheVariants.{Shared}
use Rattle.namespace_model.specs.declared.caller.Caller.{Caller}
use Rattle.namespace_model.specs.Nodes.{Node}
use Rattle.namespace_model.specs.Trees.{Path, Tree, at}
use Rattle.inode_tree.specs.declared.id.NodeId.{NodeId}
use Rattle.inode_tree.specs.declared.need.Need.{Need}
use Rattle.inode_tree.specs.Inodes.{BareInode, node_of}
use Rattle.inode_tree.specs.Footprints.{ids_of, lies_in}
use Rattle.inode_tree.specs.Parts.{Parts, inode_at, follow, child_of}
use Rattle.inode_tree.specs.Promises.{numbers_of}
use Rattle.inode_tree.specs.Stands.{Stands}
use Rattle.inode_tree.specs.Views.{Held, Shown, Agrees, covers, shown_at}
use Rattle.path_walk.specs.declared.find.Find.{Find}
use Rattle.path_walk.specs.declared.find.Found.{Found}
use Rattle.path_walk.specs.declared.find.Found.TheVariants as found
use Rattle.namespace_model.specs.Ways.{Way, reached, missing, blocked, closed, way_of, read_on}
use Rattle.path_walk.specs.Visits.{end_of, IsHeldAndShown}

-- the node of the path itself is read where the way is reached and it is there
abbrev pub last_read : Way → Path → Option Node → List Path
last_read reached path None = []
last_read reached path (Some x) = path ∷ []
last_read (missing d) path x = []
last_read (blocked p) path x = []
last_read (closed p refusal) path x = []

-- what is read to find the node of a path
abbrev pub read_to : Tree → Caller → Path → List Path
read_to t caller path = read_on t caller path ++ last_read (way_of t caller path) path (at t path)

-- a node with its id; nothing below the parent that was reached; or the end of a way that ended before
abbrev pub IsFound : Tree → Caller → Path → Found → Type 0
IsFound t caller path (found.Node id x) = (way_of t caller path ≡ reached) × (at t path ≡ Some (node_of x))
IsFound t caller path found.Nothing = (way_of t caller path ≡ reached) × (at t path ≡ None)
IsFound t caller path (found.Stopped e) = (way_of t caller path ≢ reached) × (e ≡ end_of (way_of t caller path))

-- the path leads to this id, which has this inode
pub record IsPlacedAt (parts : Parts) (path : Path) (id : ℕ) (x : BareInode) : Type 0 where
  pub leads : follow parts 0 path ≡ Some id
  pub there : inode_at parts id ≡ Some x

-- so it is of a node that was found
abbrev pub IsPlaced : Parts → Path → Found → Type 0
IsPlaced parts path (found.Node id x) = IsPlacedAt parts path id.0 x
IsPlaced parts path found.Nothing = Unit {0}
IsPlaced parts path (found.Stopped e) = Unit {0}

pub record IsFind (parts : Parts) (t : Tree) (caller : Caller) (path : Path) (f : Find) : Type 0 where
  pub found_is : IsFound t caller path f.found
  pub placed : IsPlaced parts path f.found
  pub read : numbers_of f.ids.items ≡ ids_of parts (read_to t caller path)

abbrev pub IsFindFor : Shown → Caller → Path → Find → Type 0
IsFindFor shown caller path f = (parts : Parts) (t : Tree) → Stands parts t → Agrees shown parts → IsFind parts t caller path f

-- a stripe that isn't held, in which a node lies that is read to find the node of a path
pub record IsNeedOfFind (held : Held) (shown : Shown) (caller : Caller) (path : Path) (n : Need) : Type 0 where
  pub within : n.stripe < 64
  pub asks : n.mode ≡ Shared
  pub lacks : covers (held n.stripe) Shared ≡ false
  pub needed : (parts : Parts) (t : Tree) → Stands parts t → Agrees shown parts → lies_in n.stripe (ids_of parts (read_to t caller path)) ≡ true

-- ---- one look

abbrev pub IsLookAs : Held → Shown → List NodeId → BareInode → List ℕ → List NodeId → Found → Type 0
IsLookAs held shown ids x name after found.Nothing = (child_of x name ≡ None) × (after ≡ ids)
IsLookAs held shown ids x name after (found.Node id y) =
    (child_of x name ≡ Some id.0) × (shown_at shown id.0 ≡ Some y) × IsHeldAndShown held shown id.0 × (after ≡ ids ++ id ∷ [])
IsLookAs held shown ids x name after (found.Stopped e) = ⊥

-- a look at the child of a name of a directory, behind these ids
abbrev pub IsLook : Held → Shown → List NodeId → BareInode → List ℕ → Find → Type 0
IsLook held shown ids x name f = IsLookAs held shown ids x name f.ids.items f.found
