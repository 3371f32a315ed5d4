-- What has been looked at of the parts, and what may be known from it.
use Rattle.std.specs.Prelude.{◌≡◌, ℕ, ◌%◌, ◌≤◌, Bool, true, false, Option, Some, None, option_and_then, slice_get, IsSome}
use Rattle.std.specs.FinMap as fin
use Rattle.lock_core.specs.declared.object.LockMode.{LockMode}
use Rattle.lock_core.specs.declared.object.LockMode.TheVariants as mode
use Rattle.namespace_model.specs.Nodes.{Node}
use Rattle.namespace_model.specs.Trees.{Path, Tree, at}
use Rattle.inode_tree.specs.Footprints.{HasDate}
use Rattle.inode_tree.specs.Inodes.{BareInode}
use Rattle.inode_tree.specs.Changes.{Part}
use Rattle.inode_tree.specs.Rows.{fresh_id}
use Rattle.inode_tree.specs.Parts.{Parts, inode_at}
use Rattle.inode_tree.specs.Stands.{Stands}

-- the mode in which each stripe is held
abbrev pub Held : Type 0
Held = ℕ → LockMode

-- who holds a stripe in the first mode may do what asks for the second
abbrev pub covers : LockMode → LockMode → Bool
covers held mode.None = true
covers mode.None mode.Shared = false
covers mode.Shared mode.Shared = true
covers mode.Exclusive mode.Shared = true
covers mode.None mode.Exclusive = false
covers mode.Shared mode.Exclusive = false
covers mode.Exclusive mode.Exclusive = true

-- the parts that were looked at, by their stripes
abbrev pub Shown : Type 0
Shown = ℕ → Option Part

abbrev pub Agrees : Shown → Parts → Type 0
Agrees shown parts = (stripe : ℕ) (part : Part) → shown stripe ≡ Some part → slice_get parts stripe ≡ Some part

-- what was shown stays shown
abbrev pub Grows : Shown → Shown → Type 0
Grows old new = (stripe : ℕ) (part : Part) → old stripe ≡ Some part → new stripe ≡ Some part

-- the inode of an id in what was shown
abbrev pub shown_at : Shown → ℕ → Option BareInode
shown_at shown id = option_and_then (λ part. fin.get part id) (shown (id % 64))

-- the id is kept by each list of parts that stands for a tree and agrees with what was shown
abbrev pub IsKnown : Shown → ℕ → Type 0
IsKnown shown id = (parts : Parts) (t : Tree) → Stands parts t → Agrees shown parts → IsSome (inode_at parts id)

-- the moment of each node has a date
abbrev pub HasDates : Tree → Type 0
HasDates t = (p : Path) (x : Node) → at t p ≡ Some x → HasDate x.moment

-- parts that stand for a tree in which each node has a date, and that agree with what was shown
pub record Agreeing (shown : Shown) : Type 0 where
  pub parts : Parts
  pub tree : Tree
  pub stands : Stands parts tree
  pub agrees : Agrees shown parts
  pub dates : HasDates tree

-- Such parts that also keep none of the ids which a pass has still to give. There may be none where that pass is not of these parts.
pub record ArePossible (shown : Shown) (pass used : ℕ) (parts : Parts) (t : Tree) : Type 0 where
  pub stands : Stands parts t
  pub agrees : Agrees shown parts
  pub free : (k : ℕ) → used ≤ k → inode_at parts (fresh_id pass k) ≡ None
