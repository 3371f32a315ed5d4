-- What goes out of a directory: the node of a path with all that stands below it, and the draft by which these go.
use Rattle.std.specs.Prelude.{◌≡◌, ℕ, Bool, List, [], ◌∷◌, ◌++◌, map, None, Some, IsSome}
use Rattle.namespace_model.specs.declared.reply.Reply.{Reply}
use Rattle.namespace_model.specs.declared.request.Entry.{Entry}
use Rattle.namespace_model.specs.Outcomes.{Outcome}
use Rattle.namespace_model.specs.Step.{acts, closing}
use Rattle.namespace_model.specs.Trees.{Path, Tree, at, parent, subtree}
use Rattle.inode_tree.specs.declared.change.Change.{Change}
use Rattle.inode_tree.specs.declared.change.Change.TheVariants as change
use Rattle.inode_tree.specs.declared.draft.Draft.{Draft}
use Rattle.inode_tree.specs.declared.id.NodeId.{NodeId}
use Rattle.inode_tree.specs.Footprints.{ids_of}
use Rattle.inode_tree.specs.Parts.{Parts, follow}
use Rattle.inode_tree.specs.Promises.{numbers_of, is_one_of}
use Rattle.inode_tree.specs.Stands.{Stands}
use Rattle.inode_tree.specs.Views.{Shown, Agrees}
use Rattle.path_walk.specs.declared.removals.Removal.{Removal}

-- ---- what comes of the step

-- these paths are read, and those go, out of a directory
abbrev pub taken_out : List Path → Path → List Path → Reply → Outcome
taken_out paths dir ps reply = record {
  read = paths;
  written = dir ∷ ps;
  fresh = [];
  reply = reply;
  effect = record { taken = ps; puts = []; move = None };
}

-- The step takes the subtree of the path out of its parent, once it read these; the directory is the parent, and these are the ids of the subtree.
pub record IsRemovalIn (parts : Parts) (t : Tree) (e : Entry) (path : Path) (reads : List NodeId) (removal : Removal) (reply : Reply) : Type 0 where
  pub paths : List Path
  pub acts_so : acts t e e.request.op ≡ taken_out paths (parent path) (subtree t path) reply
  pub reads_are : (id : ℕ) → is_one_of id (numbers_of reads) ≡ is_one_of id (ids_of parts paths)
  pub stands_in : follow parts 0 (parent path) ≡ Some removal.base.0
  pub there : IsSome (at t path)
  pub takes : (id : ℕ) → is_one_of id (numbers_of removal.taken.items) ≡ is_one_of id (ids_of parts (subtree t path))

-- so it is of an entry for all parts that stand for a tree and agree with what was shown
pub record IsRemoval (shown : Shown) (e : Entry) (path : Path) (reads : List NodeId) (removal : Removal) (reply : Reply) : Type 0 where
  pub named : path ≡ parent path ++ removal.name ∷ []
  pub is_removal : (parts : Parts) (t : Tree) → Stands parts t → Agrees shown parts → IsRemovalIn parts t e path reads removal reply

-- ---- the draft

-- the name goes from the directory, and each of these nodes goes
abbrev pub removals : NodeId → List ℕ → List NodeId → List Change
removals base name taken = change.Unlink base name ∷ map (λ (id : NodeId). change.Drop id) taken

-- a draft by which this name goes from the directory, and these nodes go, behind those that were read
pub record IsRemoved (close : Bool) (reply : Reply) (reads : List NodeId) (base : NodeId) (name : List ℕ) (taken : List NodeId) (d : Draft) : Type 0 where
  pub replies : d.reply ≡ closing close reply
  pub reads_these : d.reads.items ≡ reads
  pub writes_these : d.writes.items ≡ base ∷ taken
  pub changes_these : d.changes.items ≡ removals base name taken
  pub draws_none : d.drawn ≡ 0
