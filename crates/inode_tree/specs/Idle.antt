-- Changes that change nothing, by what stands at their id.
use Rattle.std.specs.Prelude.{◌≡◌, ◌≢◌, ◌⊎◌, ℕ, ◌%◌, false, List, [], Option, Some, None, IsErr}
use Rattle.std.specs.FinMap as fin
use Rattle.file_data.specs.FileRecord.{file_of, stage_answer, flush_answer}
use Rattle.inode_tree.specs.declared.change.Edit.{Edit}
use Rattle.inode_tree.specs.declared.change.Edit.TheVariants as edit
use Rattle.inode_tree.specs.declared.change.Change.{Change}
use Rattle.inode_tree.specs.declared.change.Change.TheVariants as change
use Rattle.inode_tree.specs.Inodes.{BareContent, directory, file, BareInode}
use Rattle.inode_tree.specs.Changes.{Part, is_meta_of, id_of, changed, applied}

-- a file has no names, and a directory lacks those that aren't there
abbrev pub Lacks : List ℕ → BareContent → Type 0
Lacks name (directory links) = fin.get links name ≡ None
Lacks name (file bytes staged) = Unit {0}

abbrev pub IsFileContent : BareContent → Type 0
IsFileContent (directory links) = ⊥
IsFileContent (file bytes staged) = Unit {0}

-- a stage or flush at a directory, of an empty piece, or one that is refused
abbrev pub IsIdleStage : ℕ → List ℕ → BareContent → Type 0
IsIdleStage position piece (directory links) = Unit {0}
IsIdleStage position piece (file bytes staged) = (piece ≡ []) ⊎ IsErr (stage_answer (file_of bytes staged) position piece)

abbrev pub IsIdleFlush : ℕ → BareContent → Type 0
IsIdleFlush position (directory links) = Unit {0}
IsIdleFlush position (file bytes staged) = IsErr (flush_answer (file_of bytes staged) position)

abbrev pub IsIdleEdit : Edit → BareContent → Type 0
IsIdleEdit (edit.Meta meta asks) content = is_meta_of content meta ≡ false
IsIdleEdit (edit.Stage position piece) content = IsIdleStage position piece content
IsIdleEdit (edit.Flush position retain) content = IsIdleFlush position content

-- where a node is
abbrev pub IsIdleAt : Change → BareInode → Type 0
IsIdleAt (change.Put id inode) x = ⊥
IsIdleAt (change.Drop id) x = ⊥
IsIdleAt (change.Link id name child) x = IsFileContent x.content
IsIdleAt (change.Unlink id name) x = Lacks name x.content
IsIdleAt (change.Edit id edit) x = IsIdleEdit edit x.content

-- where no node is: all but a put
abbrev pub IsNoPut : Change → Type 0
IsNoPut (change.Put id inode) = ⊥
IsNoPut (change.Drop id) = Unit {0}
IsNoPut (change.Link id name child) = Unit {0}
IsNoPut (change.Unlink id name) = Unit {0}
IsNoPut (change.Edit id edit) = Unit {0}

abbrev pub IsIdle : Change → Option BareInode → Type 0
IsIdle c None = IsNoPut c
IsIdle c (Some x) = IsIdleAt c x

-- an idle change leaves the part as it was
abbrev pub IdleChangesNothing : Type 0
IdleChangesNothing = (number : ℕ) (part : Part) (c : Change) → IsIdle c (fin.get part (id_of c)) → changed number part c ≡ part

-- a change of one node leaves each other one as it was
abbrev pub OthersStay : Type 0
OthersStay = (number id : ℕ) (part : Part) (c : Change) → id ≢ id_of c → fin.get (changed number part c) id ≡ fin.get part id

-- the changes of a stripe's own ids touch no id of another stripe
abbrev pub StripesAreApart : Type 0
StripesAreApart = (stripe number id : ℕ) (changes : List Change) (part : Part) → id % 64 ≢ stripe
    → fin.get (applied stripe number changes part) id ≡ fin.get part id
