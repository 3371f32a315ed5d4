-- What an entry does rests on the parts that it reads and writes, and it leaves the others as they were.
use Rattle.std.specs.Prelude.{◌≡◌, ◌↔◌, ℕ, true, false, List, slice_get}
use Rattle.inode_tree.specs.declared.change.Change.{Change}
use Rattle.inode_tree.specs.declared.placed.Placed.{Placed}
use Rattle.inode_tree.specs.Parts.{Parts}
use Rattle.inode_tree.specs.After.{outcome_on, after}
use Rattle.inode_tree.specs.Footprints.{reads, writes, Fits, Does}

-- two lists of parts agree on what the entry reads and writes by the first
pub record AgreeOnFootprint (xs ys : Parts) (e : Placed) : Type 0 where
  pub read : (stripe : ℕ) → reads xs e stripe ≡ true → slice_get xs stripe ≡ slice_get ys stripe
  pub written : (stripe : ℕ) → writes xs e stripe ≡ true → slice_get xs stripe ≡ slice_get ys stripe

-- the entry does the same on both
pub record DoesTheSame (xs ys : Parts) (e : Placed) : Type 0 where
  pub outcome : outcome_on xs e ≡ outcome_on ys e
  pub read : (stripe : ℕ) → reads xs e stripe ≡ reads ys e stripe
  pub written : (stripe : ℕ) → writes xs e stripe ≡ writes ys e stripe
  pub after : (stripe number : ℕ) → writes xs e stripe ≡ true → slice_get (after xs e number) stripe ≡ slice_get (after ys e number) stripe
  pub fits : (pass : ℕ) (mine : List Placed) → Fits pass mine xs e ↔ Fits pass mine ys e
  pub does : (work : List Change) → Does work xs e ↔ Does work ys e

abbrev pub IsFramed : Type 0
IsFramed = (xs ys : Parts) (e : Placed) → AgreeOnFootprint xs ys e → DoesTheSame xs ys e

abbrev pub LeavesOthers : Type 0
LeavesOthers = (parts : Parts) (e : Placed) (stripe number : ℕ) → writes parts e stripe ≡ false → slice_get (after parts e number) stripe ≡ slice_get parts stripe
