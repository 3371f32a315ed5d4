-- What becomes of many nodes that are edited in their places, each by one edit, and the draft by which they are.
use Rattle.std.specs.Prelude.{◌≡◌, ℕ, Bool, List, [], ◌∷◌, map, Some, None}
use Rattle.namespace_model.specs.declared.reply.Reply.{Reply}
use Rattle.namespace_model.specs.declared.request.Entry.{Entry}
use Rattle.namespace_model.specs.Effects.{Put}
use Rattle.namespace_model.specs.Locality.{Among}
use Rattle.namespace_model.specs.Outcomes.{Outcome}
use Rattle.namespace_model.specs.Step.{acts, closing}
use Rattle.namespace_model.specs.Trees.{Path, Tree}
use Rattle.inode_tree.specs.declared.change.Change.{Change}
use Rattle.inode_tree.specs.declared.change.Change.TheVariants as change
use Rattle.inode_tree.specs.declared.change.Edit.{Edit}
use Rattle.inode_tree.specs.declared.draft.Draft.{Draft}
use Rattle.inode_tree.specs.declared.id.NodeId.{NodeId}
use Rattle.inode_tree.specs.Footprints.{ids_of}
use Rattle.inode_tree.specs.Inodes.{BareInode}
use Rattle.inode_tree.specs.Parts.{Parts, inode_at, follow}
use Rattle.inode_tree.specs.Promises.{numbers_of, is_one_of}
use Rattle.inode_tree.specs.Stands.{Stands}
use Rattle.inode_tree.specs.Views.{Shown, Agrees}
use Rattle.path_walk.specs.Edits.{Leave}

-- ---- nodes with edits

-- a node that is edited: its path, its id, the node, the edit, and what is put at the path
pub record NodeEdit : Type 0 where
  pub path : Path
  pub id : NodeId
  pub node : BareInode
  pub edit : Edit
  pub put : Put

-- the paths with what is put there
abbrev pub puts_by : List NodeEdit → List (Path × Put)
puts_by ys = map (λ (y : NodeEdit). (y.path, y.put)) ys

abbrev pub paths_in : List (Path × Put) → List Path
paths_in puts = map (λ (x : Path × Put). x.0) puts

-- the ids with the edits
abbrev pub edits_by : List NodeEdit → List (NodeId × Edit)
edits_by ys = map (λ (y : NodeEdit). (y.id, y.edit)) ys

abbrev pub ids_in : List (NodeId × Edit) → List NodeId
ids_in edits = map (λ (x : NodeId × Edit). x.0) edits

-- the path leads to the id, at which the node is kept, and the edit leaves what is put
pub record IsPut (parts : Parts) (y : NodeEdit) : Type 0 where
  pub leads : follow parts 0 y.path ≡ Some y.id.0
  pub there : inode_at parts y.id.0 ≡ Some y.node
  pub leaves : Leave (y.edit ∷ []) y.put y.node

-- each is put so, and no path stands twice
abbrev pub Puts : Parts → List NodeEdit → Type 0
Puts parts [] = Unit {0}
Puts parts (y ∷ ys) = IsPut parts y × ((Among y.path (paths_in (puts_by ys)) → ⊥) × Puts parts ys)

-- ---- what comes of the step

-- these paths are read, and nodes are put in their own places, with a reply
abbrev pub edited_all : List Path → List (Path × Put) → Reply → Outcome
edited_all paths puts reply = record {
  read = paths;
  written = paths_in puts;
  fresh = [];
  reply = reply;
  effect = record { taken = []; puts = puts; move = None };
}

-- the step of the entry edits nodes of these ids so, once it read these
pub record IsBatchIn (parts : Parts) (t : Tree) (e : Entry) (reads : List NodeId) (edits : List (NodeId × Edit)) (reply : Reply) : Type 0 where
  pub paths : List Path
  pub nodes : List NodeEdit
  pub acts_so : acts t e e.request.op ≡ edited_all paths (puts_by nodes) reply
  pub puts : Puts parts nodes
  pub edits_are : edits ≡ edits_by nodes
  pub reads_are : (id : ℕ) → is_one_of id (numbers_of reads) ≡ is_one_of id (ids_of parts paths)

-- so it is of an entry for all parts that stand for a tree and agree with what was shown
abbrev pub IsBatch : Shown → Entry → List NodeId → List (NodeId × Edit) → Reply → Type 0
IsBatch shown e reads edits reply = (parts : Parts) (t : Tree) → Stands parts t → Agrees shown parts → IsBatchIn parts t e reads edits reply

-- ---- the draft

abbrev pub changes_by : List (NodeId × Edit) → List Change
changes_by edits = map (λ (x : NodeId × Edit). change.Edit x.0 x.1) edits

-- a draft by which these nodes are edited so, behind these that were read
pub record AreEdited (close : Bool) (reply : Reply) (reads : List NodeId) (edits : List (NodeId × Edit)) (d : Draft) : Type 0 where
  pub replies : d.reply ≡ closing close reply
  pub reads_these : d.reads.items ≡ reads
  pub writes_them : d.writes.items ≡ ids_in edits
  pub changes_them : d.changes.items ≡ changes_by edits
  pub draws_none : d.drawn ≡ 0
