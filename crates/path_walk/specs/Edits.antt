-- What becomes of nodes that are edited in their places, and the draft by which they are.
use Rattle.std.specs.Prelude.{◌≡◌, ℕ, Bool, List, [], ◌∷◌, map, Some}
use Rattle.namespace_model.specs.declared.caller.Caller.{Caller}
use Rattle.namespace_model.specs.declared.reply.Reply.{Reply}
use Rattle.namespace_model.specs.Effects.{Put, put_by}
use Rattle.namespace_model.specs.Nodes.{kind_of}
use Rattle.namespace_model.specs.Outcomes.{Outcome, answered, edited}
use Rattle.namespace_model.specs.Step.{closing}
use Rattle.namespace_model.specs.Trees.{Path, Tree, at}
use Rattle.namespace_model.specs.Ways.{reached, way_of}
use Rattle.inode_tree.specs.declared.change.Change.{Change}
use Rattle.inode_tree.specs.declared.change.Change.TheVariants as change
use Rattle.inode_tree.specs.declared.change.Edit.{Edit}
use Rattle.inode_tree.specs.declared.draft.Draft.{Draft}
use Rattle.inode_tree.specs.declared.id.NodeId.{NodeId}
use Rattle.inode_tree.specs.After.{inode_with}
use Rattle.inode_tree.specs.Changes.{edited as inode_edited}
use Rattle.inode_tree.specs.Footprints.{ids_of}
use Rattle.inode_tree.specs.Inodes.{BareInode, links_in, node_of}
use Rattle.inode_tree.specs.Parts.{Parts, inode_at, follow}
use Rattle.inode_tree.specs.Promises.{numbers_of}
use Rattle.inode_tree.specs.Stands.{Stands}
use Rattle.inode_tree.specs.Views.{Held, Shown, Agrees}
use Rattle.path_walk.specs.declared.edits.Verdict.{Verdict}
use Rattle.path_walk.specs.declared.edits.Verdict.TheVariants as verdict
use Rattle.path_walk.specs.Finds.{read_to}
use Rattle.path_walk.specs.Visits.{AreLookedAt}

-- ---- edits of an inode

-- what edits make of an inode, in their order
abbrev pub edited_by : ℕ → List Edit → BareInode → BareInode
edited_by number [] x = x
edited_by number (e ∷ es) x = edited_by number es (inode_edited number e x)

-- The edits leave what the put leaves, whatever the number. The meta of an inode says its kind, which a node of the model doesn't: where the
-- parts stand for a tree it is that of the content.
abbrev pub Leave : List Edit → Put → BareInode → Type 0
Leave edits put x =
    x.meta.kind ≡ kind_of (node_of x) → (number : ℕ) → edited_by number edits x ≡ inode_with (put_by number put) (links_in x.content)

-- ---- what an operation on one node comes to

-- what comes of the node at a path is that it is edited so, with this reply
abbrev pub IsEditOf : Outcome → Path → BareInode → List Edit → Reply → Type 0
IsEditOf o p x edits reply = (put : Put) × (o ≡ edited p put reply) × Leave edits put x

-- what comes of the node at a path is this answer, or these edits of it with this reply
abbrev pub IsVerdict : Outcome → Path → BareInode → Verdict → Type 0
IsVerdict o p x (verdict.Answer reply) = o ≡ answered reply
IsVerdict o p x (verdict.Edits edits reply) = IsEditOf o p x edits.items reply

-- these edits alone, with this reply
abbrev pub AreEdits : List Edit → Reply → Verdict → Type 0
AreEdits edits reply (verdict.Answer other) = ⊥
AreEdits edits reply (verdict.Edits given told) = (given.items ≡ edits) × (told ≡ reply)

-- ---- where the node sits

-- The way to the path is reached, these are the ids of what is read on it and of its node, and this is the node of the last of them.
pub record IsSeatIn (parts : Parts) (t : Tree) (caller : Caller) (path : Path) (reads : List NodeId) (id : NodeId) (x : BareInode) : Type 0 where
  pub passes : way_of t caller path ≡ reached
  pub holds : at t path ≡ Some (node_of x)
  pub read : numbers_of reads ≡ ids_of parts (read_to t caller path)
  pub leads : follow parts 0 path ≡ Some id.0
  pub there : inode_at parts id.0 ≡ Some x

-- so it is for all parts that stand for a tree and agree with what was shown, and what was read was looked at
pub record IsSeat (held : Held) (shown : Shown) (caller : Caller) (path : Path) (reads : List NodeId) (id : NodeId) (x : BareInode) : Type 0 where
  pub is_seat : (parts : Parts) (t : Tree) → Stands parts t → Agrees shown parts → IsSeatIn parts t caller path reads id x
  pub looked : AreLookedAt held shown reads

-- ---- the draft

-- edits of the node of an id, as changes
abbrev pub changes_at : NodeId → List Edit → List Change
changes_at id edits = map (λ (e : Edit). change.Edit id e) edits

-- a draft by which this node is edited so, behind these that were read
pub record IsEdited (close : Bool) (reply : Reply) (reads : List NodeId) (id : NodeId) (edits : List Edit) (d : Draft) : Type 0 where
  pub replies : d.reply ≡ closing close reply
  pub reads_these : d.reads.items ≡ reads
  pub writes_it : d.writes.items ≡ id ∷ []
  pub changes_it : d.changes.items ≡ changes_at id edits
  pub draws_none : d.drawn ≡ 0
