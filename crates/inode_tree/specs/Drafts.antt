-- What a reserve works on: what is to stand at each id that a change names, with its room.
use Rattle.std.specs.Prelude.{◌≡◌, ℕ, Bool, false, List, Option, option_map, if◌then◌else◌}
use Rattle.std.specs.Ordering.{nat_cmp, eq_by_cmp}
use Rattle.std.specs.FinMap as fin
use Rattle.std.specs.FinMap.{find}
use Rattle.inode_tree.specs.declared.inode.Inode.{Inode}
use Rattle.inode_tree.specs.declared.change.Change.{Change}
use Rattle.inode_tree.specs.Inodes.{BareInode, bare}
use Rattle.inode_tree.specs.Changes.{id_of, node_after, applied}
use Rattle.inode_tree.specs.Stripes.{Prepared, outcome_by, put_in}

-- a draft without its room
abbrev pub bare_draft : Option (Inode × Bool) → Prepared
bare_draft draft = option_map (λ (x : Inode × Bool). (bare x.0, x.1)) draft

-- what stands at an id once the drafts were put in
abbrev pub shown : ℕ → List (ℕ × BareInode) → List (ℕ × Option (Inode × Bool)) → ℕ → Option BareInode
shown number nodes drafts id = put_in number (option_map bare_draft (find nat_cmp id drafts)) (find nat_cmp id nodes)

-- all but what is for one id is the same
abbrev pub SameButAt : ℕ → List (ℕ × Option (Inode × Bool)) → List (ℕ × Option (Inode × Bool)) → Type 0
SameButAt id old new = (q : ℕ) → eq_by_cmp nat_cmp q id ≡ false → find nat_cmp q new ≡ find nat_cmp q old

-- the drafts are what the changes of a stripe make of its nodes
abbrev pub AreDrafts : ℕ → List (ℕ × BareInode) → List Change → List (ℕ × Option (Inode × Bool)) → Type 0
AreDrafts stripe nodes changes drafts =
    (number q : ℕ) → shown number nodes drafts q ≡ fin.get (applied stripe number changes (fin.from_entries nodes)) q

-- the drafts with one more change
abbrev pub IsDrafted : List (ℕ × BareInode) → Change → List (ℕ × Option (Inode × Bool)) → List (ℕ × Option (Inode × Bool)) → Type 0
IsDrafted nodes change old new =
    ((number : ℕ) → shown number nodes new (id_of change) ≡ node_after number change (shown number nodes old (id_of change)))
    × SameButAt (id_of change) old new

-- a draft whose room is no longer seen
abbrev pub sealed_entry : ℕ × Option (Inode × Bool) → ℕ × Prepared
sealed_entry entry = (entry.0, bare_draft entry.1)

-- what is found once an outcome was put in
abbrev pub IsPutIn : ℕ → ℕ → Prepared → List (ℕ × BareInode) → List (ℕ × BareInode) → Type 0
IsPutIn number id outcome old new =
    (q : ℕ) → find nat_cmp q new ≡ (if eq_by_cmp nat_cmp q id then outcome_by number outcome else find nat_cmp q old)
