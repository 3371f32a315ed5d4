-- What holds of the replay of a journal in which each entry fits.
use Rattle.std.specs.Prelude.{◌≡◌, ◌⊎◌, ℕ, ◌<◌, min, List, map, flat_map, length, sum_by, slice_get, Some, IsSome}
use Rattle.std.specs.FinMap as fin
use Rattle.namespace_model.specs.declared.request.Entry.{Entry}
use Rattle.namespace_model.specs.Step.{tree_after}
use Rattle.inode_tree.specs.declared.placed.Placed.{Placed}
use Rattle.inode_tree.specs.After.{drawn_ids}
use Rattle.inode_tree.specs.Parts.{inode_at}
use Rattle.inode_tree.specs.Rows.{fresh_id, BeginsRow}
use Rattle.inode_tree.specs.Stands.{Stands}
use Rattle.inode_tree.specs.Stripes.{StripeRecord}
use Rattle.inode_tree.specs.Views.{HasDates}
use Rattle.lock_core.specs.Object.{by_pass, replay}
use Rattle.parted_namespace.specs.Namespace.{parts_of, namespace}

-- the entries as the model sees them: without the passes that made them and the ids that these drew
abbrev pub entries_of : List Placed → List Entry
entries_of h = map (λ (e : Placed). e.entry) h

-- the ids that a pass gave, in their order
abbrev pub ids_given : ℕ → List Placed → List ℕ
ids_given pass h = flat_map drawn_ids (by_pass namespace pass h)

-- the id is one that a pass gave
pub record IsGiven (h : List Placed) (id : ℕ) : Type 0 where
  pub pass : ℕ
  pub place : ℕ
  pub below : pass < 64
  pub within : place < length (ids_given pass h)
  pub is : id ≡ fresh_id pass place

-- the ids that an entry counts as used up
abbrev pub uses : Placed → ℕ
uses e = min (length e.ids) 255

-- The replay stands for the tree of the run of the entries, and each of its stripes has its place as its number and nothing ready. Each node has a
-- date. Each id that is kept, but for the account's, was given. The ids that a pass gave are the beginning of its row, and as many as its entries
-- used up.
pub record StandsFor (h : List Placed) : Type 0 where
  pub stands : Stands (parts_of (replay namespace h)) (tree_after (entries_of h))
  pub numbered : (k : ℕ) (s : StripeRecord) → slice_get (replay namespace h) k ≡ Some s → (s.stripe ≡ k) × (s.ready ≡ fin.empty)
  pub dates : HasDates (tree_after (entries_of h))
  pub given : (id : ℕ) → IsSome (inode_at (parts_of (replay namespace h)) id) → (id ≡ 0) ⊎ IsGiven h id
  pub rows : (pass : ℕ) → BeginsRow pass (ids_given pass h)
  pub counted : (pass : ℕ) → sum_by uses (by_pass namespace pass h) ≡ length (ids_given pass h)
