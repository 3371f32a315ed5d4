-- A list of extents that files have together, of which the first belong to a file, and what stands behind these.
use Rattle.std.specs.Prelude.{ℕ, ◌≤◌, List, [], length, take, drop, Option, Vec}
use Rattle.std.specs.declared.alloc.Global.{Global}
use Rattle.std.specs.declared.sync.Arc.{Arc}
use Rattle.std.specs.Option.{option_map_or}
use Rattle.std.specs.Arc.{arc_value}
use Rattle.file_data.specs.declared.extent_list.ExtentList.TheInside.{Inside}

-- the extents of a file, and the pieces behind them, which may become extents next
pub record Extents : Type 0 where
  pub extents : List (ℕ × List ℕ)
  pub ahead : List (ℕ × List ℕ)

-- the whole list that is shared, empty where there is none
abbrev pub whole : Option (Arc (Vec (ℕ × List ℕ) Global) Global) → List (ℕ × List ℕ)
whole list = option_map_or (λ shared. (arc_value {X = Vec (ℕ × List ℕ) Global} shared).items) list []

abbrev pub parted : Inside → Extents
parted a = record { extents = take a.count (whole a.list); ahead = drop a.count (whole a.list) }

-- the list is as long as the file says
abbrev pub IsLong : Inside → Type 0
IsLong a = a.count ≤ length (whole a.list)
