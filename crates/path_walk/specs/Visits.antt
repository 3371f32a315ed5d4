-- What a visit is of the way: how it ends, and the ids of the nodes that are read.
use Rattle.std.specs.Prelude.{◌≡◌, ℕ, ◌+◌, ◌%◌, ◌<◌, true, false, List, length, Some, None, IsSome, Result, Ok, Err}
use Rattle.lock_core.specs.declared.object.LockMode.TheVariants.{Shared}
use Rattle.namespace_model.specs.declared.caller.Caller.{Caller}
use Rattle.namespace_model.specs.Nodes.{is_directory}
use Rattle.namespace_model.specs.Trees.{Path, Tree}
use Rattle.inode_tree.specs.declared.id.NodeId.{NodeId}
use Rattle.inode_tree.specs.declared.need.Need.{Need}
use Rattle.inode_tree.specs.Inodes.{BareInode, node_of}
use Rattle.inode_tree.specs.Footprints.{ids_of, lies_in}
use Rattle.inode_tree.specs.Parts.{Parts, inode_at, follow, child_of}
use Rattle.inode_tree.specs.Promises.{numbers_of, is_one_of}
use Rattle.inode_tree.specs.Stands.{Stands}
use Rattle.inode_tree.specs.Views.{Held, Shown, Agrees, covers, shown_at}
use Rattle.path_walk.specs.declared.stop.End.{End}
use Rattle.path_walk.specs.declared.stop.End.TheVariants as end
use Rattle.path_walk.specs.declared.stop.Visit.{Visit}
use Rattle.path_walk.specs.declared.stop.Walk.{Walk}
use Rattle.path_walk.specs.declared.stop.WalkStop.{WalkStop}
use Rattle.path_walk.specs.declared.stop.WalkStop.TheVariants as stop
use Rattle.path_walk.specs.declared.way.Met.{Met}
use Rattle.path_walk.specs.declared.way.Met.TheVariants as met
use Rattle.namespace_model.specs.Ways.{Way, reached, missing, blocked, closed, may_enter, base_of, way_of, read_on}

-- the end that a way has, with the number of names at which it ends
abbrev pub end_of : Way → End
end_of reached = end.Reached
end_of (missing d) = end.NotFound (length d + 1)
end_of (blocked p) = end.NotDirectory (length p)
end_of (closed p refusal) = end.Denied (record { rule = refusal.rule; at = p; want = 1; have = refusal.have })

-- it ends as the way does, its ids are those of the nodes that the way reads, and its base is the last directory that was passed
pub record IsVisit (parts : Parts) (t : Tree) (caller : Caller) (path : Path) (v : Visit) : Type 0 where
  pub ends : v.end ≡ end_of (way_of t caller path)
  pub read : numbers_of v.ids ≡ ids_of parts (read_on t caller path)
  pub leads : follow parts 0 (base_of path (way_of t caller path)) ≡ Some v.base.id.0
  pub there : inode_at parts v.base.id.0 ≡ Some v.base.node

-- for all parts that stand for a tree and agree with what was shown
abbrev pub IsVisitFor : Shown → Caller → Path → Visit → Type 0
IsVisitFor shown caller path v = (parts : Parts) (t : Tree) → Stands parts t → Agrees shown parts → IsVisit parts t caller path v

-- each of these ids lies in a stripe that is held and was looked at
abbrev pub AreLookedAt : Held → Shown → List NodeId → Type 0
AreLookedAt held shown ids = (id : ℕ) → is_one_of id (numbers_of ids) ≡ true → (covers (held (id % 64)) Shared ≡ true) × IsSome (shown (id % 64))

-- a stripe that isn't held, in which a node of the way lies
pub record IsOnTheWay (held : Held) (shown : Shown) (caller : Caller) (path : Path) (n : Need) : Type 0 where
  pub within : n.stripe < 64
  pub asks : n.mode ≡ Shared
  pub lacks : covers (held n.stripe) Shared ≡ false
  pub needed : (parts : Parts) (t : Tree) → Stands parts t → Agrees shown parts → lies_in n.stripe (ids_of parts (read_on t caller path)) ≡ true

-- ---- one name

-- What is met at a name of a directory: nothing; a file; a directory that doesn't let the caller through; one that does.
abbrev pub IsMet : Shown → Caller → BareInode → List ℕ → Met → Type 0
IsMet shown caller x name met.Missing = child_of x name ≡ None
IsMet shown caller x name (met.Blocked id) = (y : BareInode) × (child_of x name ≡ Some id.0) × (shown_at shown id.0 ≡ Some y) × (is_directory (node_of y) ≡ false)
IsMet shown caller x name (met.Closed id refusal) =
    (y : BareInode) × (child_of x name ≡ Some id.0) × (shown_at shown id.0 ≡ Some y) × (is_directory (node_of y) ≡ true) × (may_enter caller (node_of y) ≡ Err refusal)
IsMet shown caller x name (met.Passed base) =
    (child_of x name ≡ Some base.id.0) × (shown_at shown base.id.0 ≡ Some base.node) × (is_directory (node_of base.node) ≡ true) × (may_enter caller (node_of base.node) ≡ Ok tt)

abbrev pub IsHeldAndShown : Held → Shown → ℕ → Type 0
IsHeldAndShown held shown id = (covers (held (id % 64)) Shared ≡ true) × IsSome (shown (id % 64))

-- a node that is met was looked at
abbrev pub IsMetUnderHold : Held → Shown → Met → Type 0
IsMetUnderHold held shown met.Missing = Unit {0}
IsMetUnderHold held shown (met.Blocked id) = IsHeldAndShown held shown id.0
IsMetUnderHold held shown (met.Closed id refusal) = IsHeldAndShown held shown id.0
IsMetUnderHold held shown (met.Passed base) = IsHeldAndShown held shown base.id.0

-- the child of the name lies in a stripe that isn't held
pub record NeedsChild (held : Held) (x : BareInode) (name : List ℕ) (n : Need) : Type 0 where
  pub child : ℕ
  pub leads : child_of x name ≡ Some child
  pub stripe : n.stripe ≡ child % 64
  pub asks : n.mode ≡ Shared
  pub lacks : covers (held (child % 64)) Shared ≡ false

-- ---- a walk

-- each node of the way, up to the one at which it ends, lies in a stripe that is held and was looked at
abbrev pub IsWayHeld : Held → Shown → Parts → Tree → Caller → Path → Type 0
IsWayHeld held shown parts t caller path = (id : ℕ) → is_one_of id (ids_of parts (read_on t caller path)) ≡ true → IsHeldAndShown held shown id

-- a way that ends so, under holds
pub record IsEndOfWay (held : Held) (shown : Shown) (caller : Caller) (path : Path) (e : End) (parts : Parts) (t : Tree) : Type 0 where
  pub ends : end_of (way_of t caller path) ≡ e
  pub way_held : IsWayHeld held shown parts t caller path

-- so it is for all parts that stand for a tree and agree with what was shown
abbrev pub EndsAs : Held → Shown → Caller → Path → End → Type 0
EndsAs held shown caller path e = (parts : Parts) (t : Tree) → Stands parts t → Agrees shown parts → IsEndOfWay held shown caller path e parts t

abbrev pub HasIdsOfWay : Shown → Caller → Path → Walk → Type 0
HasIdsOfWay shown caller path walk = (parts : Parts) (t : Tree) → Stands parts t → Agrees shown parts → numbers_of walk.ids ≡ ids_of parts (read_on t caller path)

-- the ids to the parent where the way is reached, and else how it ends
abbrev pub IsWalked : Held → Shown → Caller → Path → Result Walk WalkStop → Type 0
IsWalked held shown caller path (Ok walk) = EndsAs held shown caller path end.Reached × HasIdsOfWay shown caller path walk
IsWalked held shown caller path (Err (stop.NotFound names)) = EndsAs held shown caller path (end.NotFound names)
IsWalked held shown caller path (Err (stop.NotDirectory names)) = EndsAs held shown caller path (end.NotDirectory names)
IsWalked held shown caller path (Err (stop.Denied denied)) = EndsAs held shown caller path (end.Denied denied)
IsWalked held shown caller path (Err (stop.Need n)) = IsOnTheWay held shown caller path n
IsWalked held shown caller path (Err stop.NoMemory) = Unit {0}
