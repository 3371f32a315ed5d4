-- Stripes that have to be held at least shared and aren't.
use Rattle.std.specs.Prelude.{◌≡◌, ℕ, ◌%◌, ◌<◌, false, List, Some}
use Rattle.lock_core.specs.declared.object.LockMode.TheVariants.{Shared}
use Rattle.namespace_model.specs.Locality.{Among}
use Rattle.namespace_model.specs.Trees.{Path, Tree}
use Rattle.inode_tree.specs.declared.need.Need.{Need}
use Rattle.inode_tree.specs.Parts.{Parts, follow}
use Rattle.inode_tree.specs.Stands.{Stands}
use Rattle.inode_tree.specs.Views.{Held, Shown, Agrees, covers}

-- the node of this id lies in such a stripe
pub record NeedsNode (held : Held) (id : ℕ) (n : Need) : Type 0 where
  pub stripe : n.stripe ≡ id % 64
  pub asks : n.mode ≡ Shared
  pub lacks : covers (held (id % 64)) Shared ≡ false

-- The node of one of these paths of the tree does, for all parts that stand for it and agree with what was shown.
pub record NeedsOneOf (held : Held) (shown : Shown) (paths : Tree → List Path) (n : Need) : Type 0 where
  pub within : n.stripe < 64
  pub asks : n.mode ≡ Shared
  pub lacks : covers (held n.stripe) Shared ≡ false
  pub needed : (parts : Parts) (t : Tree) → Stands parts t → Agrees shown parts
      → (q : Path) × ((id : ℕ) × (Among q (paths t) × ((follow parts 0 q ≡ Some id) × (n.stripe ≡ id % 64))))
