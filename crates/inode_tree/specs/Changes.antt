-- What changes make of a part: the nodes of one stripe, by their ids.
use Rattle.std.specs.Prelude.{ℕ, ◌%◌, ◌==◌, Bool, true, false, not, fold, List, length, Option, Some, None, option_map, Result, Ok, Err, if◌then◌else◌}
use Rattle.std.specs.Ordering.{nat_cmp}
use Rattle.std.specs.FinMap as fin
use Rattle.std.specs.FinMap.{FinMap}
use Rattle.namespace_model.specs.declared.op.Kind.{Kind}
use Rattle.namespace_model.specs.declared.op.Kind.TheVariants.{File, Directory}
use Rattle.file_data.specs.declared.fault.DataFault.{DataFault}
use Rattle.file_data.specs.FileRecord.{FileRecord, file_of, stage_answer, staged_with, flush_answer, flushed}
use Rattle.inode_tree.specs.declared.meta.Meta.{Meta}
use Rattle.inode_tree.specs.declared.change.Edit.{Edit}
use Rattle.inode_tree.specs.declared.change.Edit.TheVariants as edit
use Rattle.inode_tree.specs.declared.change.Change.{Change}
use Rattle.inode_tree.specs.declared.change.Change.TheVariants as change
use Rattle.inode_tree.specs.Inodes.{BareContent, directory, file, BareInode, bare, numbered}

-- the inodes that a stripe keeps, by their ids
abbrev pub Part : Type 0
Part = FinMap nat_cmp BareInode

-- a file after an allowed call, and else as it was
abbrev pub where_allowed : Result Unit DataFault → FileRecord → BareContent → BareContent
where_allowed (Ok _) after before = file after.committed after.staged
where_allowed (Err _) after before = before

-- ---- what becomes of a content

-- a link replaces what had the name
abbrev pub linked : List ℕ → ℕ → BareContent → BareContent
linked name child (directory links) = directory (fin.insert links name child)
linked name child (file bytes staged) = file bytes staged

abbrev pub unlinked : List ℕ → BareContent → BareContent
unlinked name (directory links) = directory (fin.remove links name)
unlinked name (file bytes staged) = file bytes staged

-- an empty piece, and one that is refused, change nothing
abbrev pub staged_in : ℕ → List ℕ → BareContent → BareContent
staged_in position piece (directory links) = directory links
staged_in position piece (file bytes staged) =
    if length piece == 0 then file bytes staged
    else where_allowed (stage_answer (file_of bytes staged) position piece) (staged_with (file_of bytes staged) position piece) (file bytes staged)

-- a flush that is refused changes nothing
abbrev pub flushed_in : ℕ → Bool → BareContent → BareContent
flushed_in position retain (directory links) = directory links
flushed_in position retain (file bytes staged) =
    where_allowed (flush_answer (file_of bytes staged) position) (flushed (file_of bytes staged) position retain) (file bytes staged)

-- ---- what becomes of an inode

abbrev pub with_content : BareInode → BareContent → BareInode
with_content x content = record x { content = content }

-- an inode that asks for the number of the entry gets it, and else keeps its own
abbrev pub asked_by : ℕ → Bool → BareInode → BareInode
asked_by number asks x = if asks then numbered number x else x

abbrev pub is_directory : Kind → Bool
is_directory Directory = true
is_directory File = false

-- whether a meta is of the content's kind
abbrev pub is_meta_of : BareContent → Meta → Bool
is_meta_of (directory links) meta = is_directory meta.kind
is_meta_of (file bytes staged) meta = not (is_directory meta.kind)

-- a meta of the other kind changes nothing
abbrev pub edited : ℕ → Edit → BareInode → BareInode
edited number (edit.Meta meta asks) x = if is_meta_of x.content meta then asked_by number asks (record x { meta = meta }) else x
edited number (edit.Stage position piece) x = with_content x (staged_in position piece x.content)
edited number (edit.Flush position retain) x = with_content x (flushed_in position retain x.content)

-- ---- what becomes of a part

-- whose node a change is of
abbrev pub id_of : Change → ℕ
id_of (change.Put id inode) = id.0
id_of (change.Drop id) = id.0
id_of (change.Link id name child) = id.0
id_of (change.Unlink id name) = id.0
id_of (change.Edit id edit) = id.0

-- what stands at that id after the change of the entry with this number: only a put makes a node where none is
abbrev pub node_after : ℕ → Change → Option BareInode → Option BareInode
node_after number (change.Put id inode) before = Some (numbered number (bare inode))
node_after number (change.Drop id) before = None
node_after number (change.Link id name child) before = option_map (λ x. with_content x (linked name child.0 x.content)) before
node_after number (change.Unlink id name) before = option_map (λ x. with_content x (unlinked name x.content)) before
node_after number (change.Edit id edit) before = option_map (edited number edit) before

-- a part in which this stands at an id
abbrev pub with_node : Part → ℕ → Option BareInode → Part
with_node part id None = fin.remove part id
with_node part id (Some x) = fin.insert part id x

abbrev pub changed : ℕ → Part → Change → Part
changed number part c = with_node part (id_of c) (node_after number c (fin.get part (id_of c)))

-- an id belongs to the stripe of its remainder by 64
abbrev pub is_own : ℕ → Change → Bool
is_own stripe c = id_of c % 64 == stripe

-- a part after the changes of its own stripe, in their order, by the entry with this number
abbrev pub applied : ℕ → ℕ → List Change → Part → Part
applied stripe number changes part = fold (λ before c. if is_own stripe c then changed number before c else before) part changes
