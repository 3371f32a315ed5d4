-- The nodes of a batch in their order, what comes of each, and the batch that they make.
use Rattle.std.specs.Prelude.{◌≡◌, ℕ, ◌+◌, ◌%◌, ◌<◌, Bool, true, false, List, [], ◌∷◌, ◌++◌, map, slice_get, Option, Some, None, IfSome, Result, Ok, Err, if◌then◌else◌}
use Rattle.serde_json.specs.View.{items_view}
use Rattle.acl_text.specs.declared.acl.AclPair.{AclPair}
use Rattle.body_text.specs.Written.{changed_directories, changed_files}
use Rattle.lock_core.specs.declared.object.LockMode.TheVariants.{Shared}
use Rattle.namespace_model.specs.declared.caller.Caller.{Caller}
use Rattle.namespace_model.specs.declared.code.Code.{Code}
use Rattle.namespace_model.specs.declared.op.BatchChange.{BatchChange}
use Rattle.namespace_model.specs.declared.op.BatchChange.TheVariants.{Set, Modify, Remove}
use Rattle.namespace_model.specs.declared.op.Op.{Op}
use Rattle.namespace_model.specs.declared.op.Op.TheVariants as op
use Rattle.namespace_model.specs.declared.request.Entry.{Entry}
use Rattle.namespace_model.specs.Effects.{Put, stamp}
use Rattle.namespace_model.specs.Locality.{Among}
use Rattle.namespace_model.specs.Nodes.{Node, is_directory}
use Rattle.namespace_model.specs.Pages.{above, on_the_way}
use Rattle.namespace_model.specs.SetAccessRecursive.{Batch, Failure, batch_next, batch_of, batch_page, entries_for_kind, failure_items, items_for_kind, turn_of}
use Rattle.namespace_model.specs.Trees.{Path, Tree, at, subtree, is_below}
use Rattle.namespace_model.specs.Ways.{reached, way_of}
use Rattle.path_text.specs.Paths.{is_prefix}
use Rattle.path_text.specs.Tokens.{is_on_page}
use Rattle.inode_tree.specs.declared.change.Edit.TheVariants as edit
use Rattle.inode_tree.specs.declared.id.NodeId.{NodeId}
use Rattle.inode_tree.specs.declared.meta.Meta.{Meta}
use Rattle.inode_tree.specs.declared.need.Need.{Need}
use Rattle.inode_tree.specs.Footprints.{ids_of}
use Rattle.inode_tree.specs.Inodes.{node_of}
use Rattle.inode_tree.specs.Parts.{Parts, follow}
use Rattle.inode_tree.specs.Promises.{numbers_of, is_one_of}
use Rattle.inode_tree.specs.Stands.{Stands}
use Rattle.inode_tree.specs.Views.{Held, Shown, Agrees, covers}
use Rattle.path_walk.specs.declared.call.Call.{Call}
use Rattle.path_walk.specs.Batches.{NodeEdit, puts_by, edits_by}
use Rattle.path_walk.specs.Finds.{read_to}
use Rattle.path_walk.specs.Visits.{AreLookedAt, IsHeldAndShown}
use Rattle.path_order.specs.declared.cursor.Seen.{Seen}
use Rattle.path_order.specs.Cursors.{IsCursor}
use Rattle.path_order.specs.PagesBelow.{below, ids_in, AreHeld, AreNodesOf, IsNodeOf}
use Rattle.path_order.specs.Subtrees.{IsTop}
use Rattle.acl_recursive.specs.declared.asked.Asked.{Asked}
use Rattle.acl_recursive.specs.declared.eval.Target.{Target}
use Rattle.acl_recursive.specs.declared.run.Run.{Run}
use Rattle.acl_recursive.specs.declared.tally.Tally.{Tally}
use Rattle.acl_recursive.specs.declared.walk.Beginning.{Beginning}
use Rattle.acl_recursive.specs.declared.walk.Step.{Step}
use Rattle.acl_recursive.specs.declared.walk.Walk.{Walk}

-- the operation of this evaluator
abbrev pub IsOfBatch : Op → Type 0
IsOfBatch (op.SetAccessRecursive path change token max force) = Unit {0}
IsOfBatch other = ⊥

-- a change with what of it is for directories, or for files
abbrev pub for_kind : Bool → BatchChange → BatchChange
for_kind is_dir (Set list) = Set (entries_for_kind is_dir list)
for_kind is_dir (Modify list) = Modify (entries_for_kind is_dir list)
for_kind is_dir (Remove list) = Remove (items_for_kind is_dir list)

-- the call asks for this of its path
pub record IsAsked (call : Call) (asked : Asked) : Type 0 where
  pub operation : call.request.now.op ≡ op.SetAccessRecursive call.path.now asked.change.now asked.token.now asked.max asked.force
  pub files : asked.for_files.now ≡ for_kind false asked.change.now

-- ---- what is still to come

-- the path of a node that comes, and the paths and nodes of such
abbrev pub path_in : Path → Step → Path
path_in dir r = dir ++ r.names.items

abbrev pub paths_in : Path → List Step → List Path
paths_in dir rows = map (λ r. path_in dir r) rows

abbrev pub nodes_in : List Step → List Seen
nodes_in rows = map (λ (r : Step). r.seen) rows

-- the node of a path, as it was looked at
abbrev pub IsTopOf : Held → Shown → Path → Seen → Type 0
IsTopOf held shown dir s = IsTop shown dir s × IsHeldAndShown held shown s.id.0

-- the path itself, where it is still to come, and what is below it behind a path
abbrev pub first_left : Path → Option Seen → List Path
first_left dir None = []
first_left dir (Some s) = dir ∷ []

abbrev pub left_at : Tree → Path → Path → Walk → List Path
left_at t dir from w = first_left dir w.first ++ above (Some from) (below t dir)

-- nothing of what is below the path was passed where the path itself is still to come
abbrev pub IsFirst : Held → Shown → Path → Path → Option Seen → Type 0
IsFirst held shown dir from None = Unit {0}
IsFirst held shown dir from (Some s) = (from ≡ dir) × IsTopOf held shown dir s

-- a walk below a path that has come to another one
pub record IsAhead (held : Held) (shown : Shown) (dir from : Path) (w : Walk) : Type 0 where
  pub first : IsFirst held shown dir from w.first
  pub cursor : IsCursor shown dir from w.cursor

-- the node that comes next, behind which the walk goes on; its path is the first of what is still to come
pub record IsStep (held : Held) (shown : Shown) (dir from : Path) (before after : Walk) (r : Step) : Type 0 where
  pub goes_on : IsAhead held shown dir (path_in dir r) after
  pub left : (parts : Parts) (t : Tree) → Stands parts t → Agrees shown parts → left_at t dir from before ≡ path_in dir r ∷ left_at t dir (path_in dir r) after
  pub node : (parts : Parts) (t : Tree) → Stands parts t → Agrees shown parts → IsNodeOf parts t (path_in dir r) r.seen
  pub looked : IsHeldAndShown held shown r.seen.id.0

-- or there is none
abbrev pub IsStepOf : Held → Shown → Path → Path → Walk → Walk → Option Step → Type 0
IsStepOf held shown dir from before after None = (parts : Parts) (t : Tree) → Stands parts t → Agrees shown parts → left_at t dir from before ≡ []
IsStepOf held shown dir from before after (Some r) = IsStep held shown dir from before after r

-- a list with nothing or with something in it
abbrev pub IsEndOf : List Path → Bool → Type 0
IsEndOf left true = left ≡ []
IsEndOf left false = (q : Path) × ((rest : List Path) × (left ≡ q ∷ rest))

-- the first of a list lies in a stripe that isn't held
pub record NeedsFirst (held : Held) (shown : Shown) (left : Tree → List Path) (n : Need) : Type 0 where
  pub within : n.stripe < 64
  pub asks : n.mode ≡ Shared
  pub lacks : covers (held n.stripe) Shared ≡ false
  pub needed : (parts : Parts) (t : Tree) → Stands parts t → Agrees shown parts
      → (q : Path) × ((rest : List Path) × ((id : ℕ) × ((left t ≡ q ∷ rest) × ((follow parts 0 q ≡ Some id) × (n.stripe ≡ id % 64)))))

abbrev pub NeedsLeft : Held → Shown → Path → Path → Walk → Need → Type 0
NeedsLeft held shown dir from w n = NeedsFirst held shown (λ t. left_at t dir from w) n

-- the nodes at the path and below it, behind the token
abbrev pub nodes_behind : Tree → Path → Option Path → List Path
nodes_behind t dir token = above token (subtree t dir)

-- a walk that comes to all of them, and the nodes below the path on the way to the token
pub record IsBegun (held : Held) (shown : Shown) (dir : Path) (token : Option Path) (b : Beginning) : Type 0 where
  pub from : Path
  pub ahead : IsAhead held shown dir from b.walk
  pub left : (parts : Parts) (t : Tree) → Stands parts t → Agrees shown parts → nodes_behind t dir token ≡ left_at t dir from b.walk
  pub way : (parts : Parts) (t : Tree) → Stands parts t → Agrees shown parts → AreNodesOf parts t (on_the_way t (is_below dir) token) b.way.items
  pub looked : AreHeld held shown b.way.items

-- or there are none, and none on the way
abbrev pub IsBeginning : Held → Shown → Path → Option Path → Option Beginning → Type 0
IsBeginning held shown dir token None =
    (parts : Parts) (t : Tree) → Stands parts t → Agrees shown parts → (nodes_behind t dir token ≡ []) × (on_the_way t (is_below dir) token ≡ [])
IsBeginning held shown dir token (Some b) = IsBegun held shown dir token b

-- a walk that comes to all nodes of the call
pub record IsReadyFor (held : Held) (shown : Shown) (call : Call) (asked : Asked) (w : Walk) : Type 0 where
  pub from : Path
  pub ahead : IsAhead held shown call.path.now from w
  pub left : (parts : Parts) (t : Tree) → Stands parts t → Agrees shown parts → nodes_behind t call.path.now asked.token.now ≡ left_at t call.path.now from w

-- ---- what comes of a node

-- the new lists of a node, or why it fails
abbrev pub Turns : Type 0
Turns = Node → Result AclPair Code

abbrev pub fails : Result AclPair Code → Bool
fails (Ok pair) = false
fails (Err code) = true

-- what is kept of a node that has these lists from a moment on
abbrev pub meta_with : AclPair → ℕ → Meta → Meta
meta_with pair moment m = record m { acl = pair; moment = moment }

abbrev pub edit_to : AclPair → ℕ → Path → Seen → NodeEdit
edit_to pair moment q s = record {
  path = q;
  id = s.id;
  node = s.node;
  edit = edit.Meta (meta_with pair moment s.node.meta) true;
  put = stamp moment (record (node_of s.node) { acl = pair });
}

abbrev pub edit_of : Result AclPair Code → ℕ → Path → Seen → List NodeEdit
edit_of (Ok pair) moment q s = edit_to pair moment q s ∷ []
edit_of (Err code) moment q s = []

abbrev pub failure_of : Result AclPair Code → Path → Seen → List Failure
failure_of (Ok pair) q s = []
failure_of (Err code) q s = record { path = q; node = node_of s.node; code = code } ∷ []

abbrev pub failed_node : Result AclPair Code → Seen → List Seen
failed_node (Ok pair) s = []
failed_node (Err code) s = s ∷ []

-- the nodes that are changed, and those that fail
abbrev pub edits_of : Turns → ℕ → Path → List Step → List NodeEdit
edits_of turns moment dir [] = []
edits_of turns moment dir (r ∷ rows) = edit_of (turns (node_of r.seen.node)) moment (path_in dir r) r.seen ++ edits_of turns moment dir rows

abbrev pub failures_of : Turns → Path → List Step → List Failure
failures_of turns dir [] = []
failures_of turns dir (r ∷ rows) = failure_of (turns (node_of r.seen.node)) (path_in dir r) r.seen ++ failures_of turns dir rows

abbrev pub failed_nodes : Turns → List Step → List Seen
failed_nodes turns [] = []
failed_nodes turns (r ∷ rows) = failed_node (turns (node_of r.seen.node)) r.seen ++ failed_nodes turns rows

abbrev pub batch_by : Turns → ℕ → Path → List Step → Batch
batch_by turns moment dir rows = record { changed = puts_by (edits_of turns moment dir rows); failed = failures_of turns dir rows }

-- ---- what came of the nodes so far

pub record IsTally (turns : Turns) (moment : ℕ) (dir : Path) (rows : List Step) (tally : Tally) : Type 0 where
  pub edits : tally.edits.items ≡ edits_by (edits_of turns moment dir rows)
  pub directories : tally.changed.directories ≡ changed_directories (batch_by turns moment dir rows)
  pub files : tally.changed.files ≡ changed_files (batch_by turns moment dir rows)
  pub failed : items_view tally.failed.items ≡ failure_items (failures_of turns dir rows)
  pub ids : numbers_of tally.failed_ids.items ≡ ids_in (failed_nodes turns rows)

-- one edit more
pub record IsWithEdit (before : Tally) (moment : ℕ) (s : Seen) (pair : AclPair) (after : Tally) : Type 0 where
  pub edits : after.edits.items ≡ before.edits.items ++ (s.id, edit.Meta (meta_with pair moment s.node.meta) true) ∷ []
  pub directories : after.changed.directories ≡ (if is_directory (node_of s.node) then before.changed.directories + 1 else before.changed.directories)
  pub files : after.changed.files ≡ (if is_directory (node_of s.node) then before.changed.files else before.changed.files + 1)
  pub failed : after.failed.items ≡ before.failed.items
  pub ids : after.failed_ids.items ≡ before.failed_ids.items

-- one failure more
pub record IsWithFailure (before : Tally) (dir : Path) (r : Step) (code : Code) (after : Tally) : Type 0 where
  pub edits : after.edits.items ≡ before.edits.items
  pub changed : after.changed ≡ before.changed
  pub failed : (fs : List Failure) → items_view before.failed.items ≡ failure_items fs
      → items_view after.failed.items ≡ failure_items (fs ++ record { path = path_in dir r; node = node_of r.seen.node; code = code } ∷ [])
  pub ids : after.failed_ids.items ≡ before.failed_ids.items ++ r.seen.id ∷ []

-- ---- a batch

-- the path of these names, and the given token where there are none
abbrev pub resumed : Path → Option Path → Option Path → Option Path
resumed dir token None = token
resumed dir token (Some names) = Some (dir ++ names)

abbrev pub turns_of : Call → Asked → Turns
turns_of call asked = turn_of call.caller.now asked.change.now

-- the batch of the model is what came of these nodes, and its token is this one
pub record IsRunIn (parts : Parts) (t : Tree) (call : Call) (asked : Asked) (rows : List Step) (next : Option Path) : Type 0 where
  pub nodes : AreNodesOf parts t (paths_in call.path.now rows) (nodes_in rows)
  pub front : (rest : List Path) × (nodes_behind t call.path.now asked.token.now ≡ paths_in call.path.now rows ++ rest)
  pub batch : (e : Entry) → e.request ≡ call.request.now → e.moment ≡ call.moment
      → batch_of t e asked.change.now asked.force (batch_page t call.path.now asked.token.now asked.max).paths ≡ batch_by (turns_of call asked) call.moment call.path.now rows
  pub next_is : batch_next asked.force asked.token.now (batch_page t call.path.now asked.token.now asked.max) (batch_by (turns_of call asked) call.moment call.path.now rows) ≡ next

-- so it is for all parts that stand for a tree and agree with what was shown, and each of the nodes was looked at
pub record IsRun (held : Held) (shown : Shown) (call : Call) (asked : Asked) (run : Run) : Type 0 where
  pub rows : List Step
  pub tally : IsTally (turns_of call asked) call.moment call.path.now rows run.tally
  pub is_run : (parts : Parts) (t : Tree) → Stands parts t → Agrees shown parts → IsRunIn parts t call asked rows run.next
  pub looked : AreHeld held shown (nodes_in rows)
  pub on_page : IfSome run.next (λ p. is_on_page (slice_get call.path.now 0) p ≡ true)

-- a path whose node is changed or fails
abbrev pub touched_by : Batch → List Path
touched_by b = map (λ (f : Failure). f.path) b.failed ++ map (λ (x : Path × Put). x.0) b.changed

-- A stripe that isn't held, in which a node of the batch lies: all before it came, and none of them ends the batch.
pub record NeedsOfBatch (held : Held) (shown : Shown) (call : Call) (asked : Asked) (n : Need) : Type 0 where
  pub within : n.stripe < 64
  pub asks : n.mode ≡ Shared
  pub lacks : covers (held n.stripe) Shared ≡ false
  pub needed : (parts : Parts) (t : Tree) → Stands parts t → Agrees shown parts → (e : Entry) → e.request ≡ call.request.now → e.moment ≡ call.moment
      → (q : Path) × ((id : ℕ) × (Among q (touched_by (batch_of t e asked.change.now asked.force (batch_page t call.path.now asked.token.now asked.max).paths)) × ((follow parts 0 q ≡ Some id) × (n.stripe ≡ id % 64))))

-- ---- where it begins and what is read

-- the node of the path, for these parts, and the ids of what was read to find it
pub record IsTargetIn (parts : Parts) (t : Tree) (caller : Caller) (path : Path) (target : Target) : Type 0 where
  pub passes : way_of t caller path ≡ reached
  pub shows : at t path ≡ Some (node_of target.top.node)
  pub reads : numbers_of target.reads.items ≡ ids_of parts (read_to t caller path)

pub record IsTarget (held : Held) (shown : Shown) (call : Call) (target : Target) : Type 0 where
  pub is_target : (parts : Parts) (t : Tree) → Stands parts t → Agrees shown parts → IsTargetIn parts t call.caller.now call.path.now target
  pub top : IsTopOf held shown call.path.now target.top
  pub looked : AreLookedAt held shown target.reads.items

-- these are the ids of what is read to find the node of the path, and on the way to the token
pub record IsReadIn (parts : Parts) (t : Tree) (caller : Caller) (path : Path) (token : Option Path) (reads : List NodeId) : Type 0 where
  pub passes : way_of t caller path ≡ reached
  pub shows : (x : Node) × (at t path ≡ Some x)
  pub read : (id : ℕ) → is_one_of id (numbers_of reads) ≡ is_one_of id (ids_of parts (read_to t caller path ++ on_the_way t (is_prefix path) token))

pub record IsRead (held : Held) (shown : Shown) (call : Call) (token : Option Path) (reads : List NodeId) : Type 0 where
  pub is_read : (parts : Parts) (t : Tree) → Stands parts t → Agrees shown parts → IsReadIn parts t call.caller.now call.path.now token reads
  pub looked : AreLookedAt held shown reads
