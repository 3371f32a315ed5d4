-- Of which nodes a listing's entry is, of which the stamp of a filesystem, and of which batch the counts are.
use Rattle.std.specs.Prelude.{◌≡◌, ◌≤◌, ℕ, length}
use Rattle.serde_json.specs.Data.{Items}
use Rattle.lease_state.specs.declared.lease.TheConstants.{LAST_MOMENT}
use Rattle.namespace_model.specs.Nodes.{Content, directory, file, Node}
use Rattle.namespace_model.specs.SetAccessRecursive.{Batch, failure_items}
use Rattle.body_text.specs.Written.{changed_directories, changed_files}
use Rattle.body_text.specs.declared.batches.Changed.{Changed}
use Rattle.body_text.specs.declared.paths.Contents.{Contents}
use Rattle.body_text.specs.declared.paths.Contents.TheVariants as contents
use Rattle.body_text.specs.declared.paths.PathEntry.{PathEntry}

-- a directory, or a file of so many bytes; what is staged is not among them
abbrev pub AreContents : Contents → Content → Type 0
AreContents contents.Directory directory = Unit {0}
AreContents contents.Directory (file bytes staged) = ⊥
AreContents (contents.File len) directory = ⊥
AreContents (contents.File len) (file bytes staged) = len ≡ length bytes

-- An entry tells of a node, whose moment is before the year 10000.
pub record IsEntryOf (entry : PathEntry) (x : Node) : Type 0 where
  pub contents : AreContents entry.contents x.content
  pub number : entry.number ≡ x.number
  pub moment : entry.moment ≡ x.moment
  pub timely : x.moment ≤ LAST_MOMENT
  pub owner : entry.owner.now ≡ x.owner
  pub group : entry.group.now ≡ x.group
  pub access : entry.access.now ≡ x.acl.access
  pub sticky : entry.sticky ≡ x.sticky

-- the number and the moment of a node, and the moment is before the year 10000
pub record IsStampOf (n ms : ℕ) (x : Node) : Type 0 where
  pub number : n ≡ x.number
  pub moment : ms ≡ x.moment
  pub timely : x.moment ≤ LAST_MOMENT

-- what a batch changed is counted so, and these are the values of what failed in it
pub record IsCountOf (changed : Changed) (entries : Items) (b : Batch) : Type 0 where
  pub directories : changed.directories ≡ changed_directories b
  pub files : changed.files ≡ changed_files b
  pub failed : entries ≡ failure_items b.failed
