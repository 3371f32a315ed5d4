-- Which stripes an entry reads and writes, when a pass may make it, and which work is its own.
use Rattle.std.specs.Prelude.{◌≡◌, ℕ, ◌%◌, ◌<◌, ◌==◌, Bool, true, List, ◌++◌, map, flat_map, length, Some, slice_get}
use Rattle.std.specs.List.{list_any}
use Rattle.namespace_model.specs.Trees.{Path}
use Rattle.namespace_model.specs.Sound.{IsSound}
use Rattle.inode_tree.specs.declared.change.Change.{Change}
use Rattle.inode_tree.specs.declared.placed.Placed.{Placed}
use Rattle.inode_tree.specs.Rows.{BeginsRow}
use Rattle.inode_tree.specs.Changes.{Part, applied}
use Rattle.inode_tree.specs.Parts.{Parts}
use Rattle.inode_tree.specs.After.{known, drawn_ids, outcome_on, after}

-- the ids that paths have before the entry, a blank's id included
abbrev pub ids_of : Parts → List Path → List ℕ
ids_of parts ps = map (λ (x : Path × ℕ). x.1) (known parts ps)

-- the ids that an entry reads
abbrev pub read_ids : Parts → Placed → List ℕ
read_ids parts e = ids_of parts (outcome_on parts e).read

-- the ids that it writes: of the paths written, and those that it drew
abbrev pub written_ids : Parts → Placed → List ℕ
written_ids parts e = ids_of parts (outcome_on parts e).written ++ drawn_ids e

-- one of the ids lies in the stripe
abbrev pub lies_in : ℕ → List ℕ → Bool
lies_in stripe ids = list_any (λ id. id % 64 == stripe) ids

abbrev pub reads : Parts → Placed → ℕ → Bool
reads parts e stripe = lies_in stripe (read_ids parts e)

abbrev pub writes : Parts → Placed → ℕ → Bool
writes parts e stripe = lies_in stripe (written_ids parts e)

-- a moment, in milliseconds since 1970, before the year 10000, so that a date has four digits for the year
abbrev pub HasDate : ℕ → Type 0
HasDate moment = moment < 253402300800000

-- The request is sound and the moment has a date; the pass is the entry's own and below 64; the entry drew as many ids as it has new paths; and what the
-- pass drew before and now is the beginning of its row.
pub record Fits (pass : ℕ) (mine : List Placed) (parts : Parts) (e : Placed) : Type 0 where
  pub sound : IsSound e.entry.request
  pub moment : HasDate e.entry.moment
  pub by : e.pass ≡ pass
  pub below : pass < 64
  pub as_many : length e.ids ≡ length (outcome_on parts e).fresh
  pub next : BeginsRow pass (flat_map drawn_ids mine ++ drawn_ids e)

-- For each written stripe the changes, applied to its part with any number, give that part after the entry. The stripes are the places in
-- the list: an object whose parts carry a number of their own has to ask beside this that it is their place.
abbrev pub Does : List Change → Parts → Placed → Type 0
Does work parts e = (stripe number : ℕ) (part : Part) → writes parts e stripe ≡ true → slice_get parts stripe ≡ Some part
    → slice_get (after parts e number) stripe ≡ Some (applied stripe number work part)
