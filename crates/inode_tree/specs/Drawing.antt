-- The ids that new nodes get: the next ones of the row of a pass, from the top of the path.
use Rattle.std.specs.Prelude.{◌≡◌, ℕ, zero, suc, List, [], ◌∷◌, length, Some, None, slice_get}
use Rattle.namespace_model.specs.Trees.{Tree}
use Rattle.namespace_model.specs.Step.{new_paths}
use Rattle.inode_tree.specs.declared.id.NodeId.{NodeId}
use Rattle.inode_tree.specs.declared.placed.Placed.{Placed}
use Rattle.inode_tree.specs.Rows.{fresh_id}
use Rattle.inode_tree.specs.Parts.{Parts, inode_at}
use Rattle.inode_tree.specs.After.{drawn_ids}

-- so many ids of the row of a pass, behind those that were used
abbrev pub next_ids : ℕ → ℕ → ℕ → List NodeId
next_ids pass used zero = []
next_ids pass used (suc many) = (record { 0 = fresh_id pass used }) ∷ next_ids pass (suc used) many

-- An entry that draws ids rightly for a tree on these parts: one for each new path, none twice, and none that is kept.
pub record DrawsRightly (parts : Parts) (t : Tree) (e : Placed) : Type 0 where
  pub as_many : length e.ids ≡ length (new_paths t e.entry)
  pub once : (j k id : ℕ) → slice_get (drawn_ids e) j ≡ Some id → slice_get (drawn_ids e) k ≡ Some id → j ≡ k
  pub free : (k id : ℕ) → slice_get (drawn_ids e) k ≡ Some id → inode_at parts id ≡ None
