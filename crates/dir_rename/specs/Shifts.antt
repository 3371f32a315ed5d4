-- What moves, and the draft by which it does: one name goes, and one name comes.
use Rattle.std.specs.Prelude.{◌≡◌, ℕ, Bool, false, true, List, [], ◌∷◌, ◌++◌, Option, Some, None, option_map, unwrap_or}
use Rattle.path_text.specs.Paths.{is_prefix}
use Rattle.namespace_model.specs.declared.request.Entry.{Entry}
use Rattle.namespace_model.specs.Outcomes.{reading}
use Rattle.namespace_model.specs.Rename.{Moving, shifted}
use Rattle.namespace_model.specs.Replies.{success, stamp_fields}
use Rattle.namespace_model.specs.Step.{acts, closing}
use Rattle.namespace_model.specs.Trees.{Path, Tree, parent}
use Rattle.inode_tree.specs.declared.change.Change.{Change}
use Rattle.inode_tree.specs.declared.change.Change.TheVariants as change
use Rattle.inode_tree.specs.declared.change.Edit.TheVariants as edit
use Rattle.inode_tree.specs.declared.draft.Draft.{Draft}
use Rattle.inode_tree.specs.declared.id.NodeId.{NodeId}
use Rattle.inode_tree.specs.Footprints.{ids_of}
use Rattle.inode_tree.specs.Inodes.{BareInode, node_of}
use Rattle.inode_tree.specs.Parts.{Parts, inode_at, follow}
use Rattle.inode_tree.specs.Promises.{numbers_of, is_one_of}
use Rattle.inode_tree.specs.Stands.{Stands}
use Rattle.inode_tree.specs.Views.{Shown, Agrees}
use Rattle.path_walk.specs.declared.call.Call.{Call}
use Rattle.dir_rename.specs.declared.shift.Shift.{Shift}

-- ---- what comes of the step

-- the paths that are replaced: the destination, where a node stands there
abbrev pub replaced_at : Path → Option NodeId → List Path
replaced_at path None = []
replaced_at path (Some id) = path ∷ []

-- The step moves the node, once it read these. Each id is that of its path: the two directories, the node, and what stands at the destination.
pub record IsShiftIn (parts : Parts) (t : Tree) (e : Entry) (m : Moving) (reads : List NodeId) (shift : Shift) : Type 0 where
  pub paths : List Path
  pub node : BareInode
  pub acts_so : acts t e e.request.op ≡ reading paths (shifted e m (node_of node) (replaced_at m.path shift.old))
  pub reads_are : (id : ℕ) → is_one_of id (numbers_of reads) ≡ is_one_of id (ids_of parts paths)
  pub moves_out_of : follow parts 0 (parent m.source) ≡ Some shift.from.0
  pub moves_into : follow parts 0 (parent m.path) ≡ Some shift.to.0
  pub leads : follow parts 0 m.source ≡ Some shift.id.0
  pub there : inode_at parts shift.id.0 ≡ Some node
  pub meta_is : shift.meta ≡ record node.meta { props = unwrap_or m.props node.meta.props; moment = e.moment }
  pub replaces : follow parts 0 m.path ≡ option_map (λ (id : NodeId). id.0) shift.old

-- So it is of an entry for all parts that stand for a tree and agree with what was shown; and the destination is neither the source nor below it.
pub record IsShift (shown : Shown) (e : Entry) (m : Moving) (reads : List NodeId) (shift : Shift) : Type 0 where
  pub source_named : m.source ≡ parent m.source ++ shift.name ∷ []
  pub path_named : m.path ≡ parent m.path ++ shift.new_name ∷ []
  pub apart : is_prefix m.source m.path ≡ false
  pub is_shift : (parts : Parts) (t : Tree) → Stands parts t → Agrees shown parts → IsShiftIn parts t e m reads shift

-- so it is of each entry of the call
abbrev pub IsShiftOf : Shown → Call → List NodeId → Shift → Type 0
IsShiftOf shown call reads shift = (m : Moving) × ((e : Entry) → e.request ≡ call.request.now → e.moment ≡ call.moment → IsShift shown e m reads shift)

-- ---- the draft

-- what stood at the destination goes
abbrev pub dropped : Option NodeId → List Change
dropped None = []
dropped (Some id) = change.Drop id ∷ []

-- one name goes, one name comes, and the node itself has another meta, with the number of the entry; nothing of what is below it is named
abbrev pub shifts : Shift → List Change
shifts s = dropped s.old ++ change.Unlink s.from s.name ∷ change.Link s.to s.new_name s.id ∷ change.Edit s.id (edit.Meta s.meta true) ∷ []

abbrev pub with_old : Option NodeId → List NodeId
with_old None = []
with_old (Some id) = id ∷ []

-- both directories, the node, and what stood at the destination
abbrev pub to_write : Shift → List NodeId
to_write s = s.from ∷ s.to ∷ s.id ∷ with_old s.old

-- a draft by which it moves, behind those that were read
pub record IsShifted (close : Bool) (moment : ℕ) (reads : List NodeId) (s : Shift) (d : Draft) : Type 0 where
  pub replies : d.reply ≡ closing close (success 201 (stamp_fields moment))
  pub reads_these : d.reads.items ≡ reads
  pub writes_these : d.writes.items ≡ to_write s
  pub changes_these : d.changes.items ≡ shifts s
  pub draws_none : d.drawn ≡ 0
