-- Whether the nodes that are to be written are held for it.
use Rattle.std.specs.Prelude.{◌≡◌, ℕ, ◌%◌, ◌<◌, true, false, List, Option, Some, None}
use Rattle.lock_core.specs.declared.object.LockMode.TheVariants.{Exclusive}
use Rattle.inode_tree.specs.declared.id.NodeId.{NodeId}
use Rattle.inode_tree.specs.declared.need.Need.{Need}
use Rattle.inode_tree.specs.Footprints.{lies_in}
use Rattle.inode_tree.specs.Promises.{numbers_of, is_one_of}
use Rattle.inode_tree.specs.Views.{Held, covers}

-- each of these ids lies in a stripe that is held exclusively
abbrev pub AreHeldToWrite : Held → List NodeId → Type 0
AreHeldToWrite held ids = (id : ℕ) → is_one_of id (numbers_of ids) ≡ true → held (id % 64) ≡ Exclusive

-- a stripe in which one of these ids lies, and which isn't held exclusively
pub record LacksStripe (held : Held) (ids : List NodeId) (n : Need) : Type 0 where
  pub within : n.stripe < 64
  pub asks : n.mode ≡ Exclusive
  pub lacks : covers (held n.stripe) Exclusive ≡ false
  pub of_one : lies_in n.stripe (numbers_of ids) ≡ true

abbrev pub IsUnheld : Held → List NodeId → Option Need → Type 0
IsUnheld held ids None = AreHeldToWrite held ids
IsUnheld held ids (Some n) = LacksStripe held ids n
