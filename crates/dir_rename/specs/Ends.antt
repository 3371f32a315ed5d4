-- One end of a rename: what comes of a step that goes to a path, asks its directory, and looks at its node.
use Rattle.std.specs.Prelude.{◌≡◌, ◌<◌, true, false, List, ◌∷◌, ◌++◌, [], Option, Some, None}
use Rattle.lock_core.specs.declared.object.LockMode.TheVariants.{Shared}
use Rattle.namespace_model.specs.declared.caller.Caller.{Caller}
use Rattle.namespace_model.specs.declared.code.Code.{Code}
use Rattle.namespace_model.specs.Access.{write_execute}
use Rattle.namespace_model.specs.Nodes.{Node}
use Rattle.namespace_model.specs.Outcomes.{Outcome, answered, reading, unless, noted}
use Rattle.namespace_model.specs.Refusals.{lacks}
use Rattle.namespace_model.specs.Trees.{Path, Tree, at, parent}
use Rattle.namespace_model.specs.Walks.{walk}
use Rattle.inode_tree.specs.declared.id.NodeId.{NodeId}
use Rattle.inode_tree.specs.declared.need.Need.{Need}
use Rattle.inode_tree.specs.Footprints.{ids_of, lies_in}
use Rattle.inode_tree.specs.Inodes.{BareInode, node_of}
use Rattle.inode_tree.specs.Parts.{Parts, inode_at, follow}
use Rattle.inode_tree.specs.Promises.{numbers_of}
use Rattle.inode_tree.specs.Stands.{Stands}
use Rattle.inode_tree.specs.Views.{Held, Shown, Agrees, covers}
use Rattle.path_walk.specs.declared.find.Found.{Found}
use Rattle.path_walk.specs.declared.find.Found.TheVariants as found
use Rattle.path_walk.specs.declared.stop.Base.{Base}
use Rattle.path_walk.specs.Visits.{AreLookedAt, IsHeldAndShown}
use Rattle.path_order.specs.declared.cursor.Seen.{Seen}
use Rattle.path_order.specs.Cursors.{IsAt}
use Rattle.dir_rename.specs.declared.ends.Looked.{Looked}
use Rattle.dir_rename.specs.declared.ends.Looked.TheVariants as looked
use Rattle.dir_rename.specs.declared.ends.Spot.{Spot}

-- ---- what comes of the step

-- The way to the directory of a path; its rights; and then what comes where nothing stands at the path, or where a node does, by the directory.
abbrev pub end_step : Tree → Caller → Code → Path → (Node → Outcome) → (Node → Node → Outcome) → Outcome
end_step t caller code p none some =
    walk t caller code p (λ dir. unless (lacks caller write_execute (parent p) dir) (noted (at t p) p (none dir) (some dir)))

-- what comes by the node that was found, if any
abbrev pub comes_then : BareInode → Option Seen → (Node → Outcome) → (Node → Node → Outcome) → Outcome
comes_then dir None none some = none (node_of dir)
comes_then dir (Some seen) none some = some (node_of dir) (node_of seen.node)

-- ---- what was found

abbrev pub seen_in : Found → Option Seen
seen_in (found.Node id node) = Some (record { id = id; node = node })
seen_in found.Nothing = None
seen_in (found.Stopped e) = None

-- a path and the directory in which it stands
pub record IsIn (parts : Parts) (p : Path) (base : Base) : Type 0 where
  pub leads : follow parts 0 (parent p) ≡ Some base.id.0
  pub there : inode_at parts base.id.0 ≡ Some base.node

-- the node of a path, or that it leads nowhere
abbrev pub IsThere : Parts → Path → Option Seen → Type 0
IsThere parts p None = follow parts 0 p ≡ None
IsThere parts p (Some seen) = IsAt parts p seen.id.0 seen.node

-- a node that was found was looked at
abbrev pub IsSeenHeld : Held → Shown → Option Seen → Type 0
IsSeenHeld held shown None = Unit {0}
IsSeenHeld held shown (Some seen) = IsHeldAndShown held shown seen.id.0

-- ---- a look

-- These ids are those of what is read; and whatever comes then, it comes behind that.
pub record Reads (parts : Parts) (ids : List NodeId) (comes : (Node → Outcome) → (Node → Node → Outcome) → Outcome) (then : (Node → Outcome) → (Node → Node → Outcome) → Outcome) : Type 0 where
  pub paths : List Path
  pub are : numbers_of ids ≡ ids_of parts paths
  pub goes : (none : Node → Outcome) (some : Node → Node → Outcome) → comes none some ≡ reading paths (then none some)

pub record IsSpotIn (parts : Parts) (t : Tree) (caller : Caller) (code : Code) (p : Path) (s : Spot) : Type 0 where
  pub reads : Reads parts s.reads.items (end_step t caller code p) (comes_then s.base.node s.found)
  pub is_in : IsIn parts p s.base
  pub is_there : IsThere parts p s.found

-- for all parts that stand for a tree and agree with what was shown; and what was read was looked at
pub record IsSpot (held : Held) (shown : Shown) (caller : Caller) (code : Code) (p : Path) (s : Spot) : Type 0 where
  pub named : p ≡ parent p ++ s.name.now ∷ []
  pub is_spot : (parts : Parts) (t : Tree) → Stands parts t → Agrees shown parts → IsSpotIn parts t caller code p s
  pub looked : AreLookedAt held shown s.reads.items
  pub found_held : IsSeenHeld held shown s.found

-- in the directory, which lets the caller change it; or the step is answered so
abbrev pub IsLooked : Held → Shown → Caller → Code → Path → Looked → Type 0
IsLooked held shown caller code p (looked.At spot) = IsSpot held shown caller code p spot
IsLooked held shown caller code p (looked.Ended ids reply) =
    ((parts : Parts) (t : Tree) → Stands parts t → Agrees shown parts → Reads parts ids.items (end_step t caller code p) (λ none some. answered reply)) × AreLookedAt held shown ids.items

-- a stripe that isn't held, in which a node lies that is read, whatever comes then
pub record NeedsLook (held : Held) (shown : Shown) (caller : Caller) (code : Code) (p : Path) (n : Need) : Type 0 where
  pub within : n.stripe < 64
  pub asks : n.mode ≡ Shared
  pub lacks : covers (held n.stripe) Shared ≡ false
  pub needed : (parts : Parts) (t : Tree) → Stands parts t → Agrees shown parts
      → (ps : List Path) × ((lies_in n.stripe (ids_of parts ps) ≡ true) × ((none : Node → Outcome) (some : Node → Node → Outcome) → (after : Outcome) × (end_step t caller code p none some ≡ reading ps after)))
