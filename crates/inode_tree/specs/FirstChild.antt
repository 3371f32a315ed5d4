-- The first child of a node behind a name.
use Rattle.std.specs.Prelude.{◌≡◌, ℕ, true, List, Option, Some, None, IsSome}
use Rattle.std.specs.declared.cmp.Ordering.TheVariants.{Less}
use Rattle.inode_tree.specs.ChildLists.{name_cmp, is_above}
use Rattle.inode_tree.specs.Inodes.{BareInode}
use Rattle.inode_tree.specs.Parts.{child_of}

-- m leads to this child and is above the name, if one is given; and no other child that is above the name stands before it
pub record IsFirstChild (x : BareInode) (last : Option (List ℕ)) (m : List ℕ) (id : ℕ) : Type 0 where
  pub leads : child_of x m ≡ Some id
  pub above : is_above last m ≡ true
  pub first : (k : List ℕ) → is_above last k ≡ true → IsSome (child_of x k) → name_cmp k m ≡ Less → ⊥

-- so it is of a name with its id; or no child is above the name
abbrev pub IsChildAbove : BareInode → Option (List ℕ) → Option (List ℕ × ℕ) → Type 0
IsChildAbove x last None = (k : List ℕ) → is_above last k ≡ true → child_of x k ≡ None
IsChildAbove x last (Some link) = IsFirstChild x last link.0 link.1
