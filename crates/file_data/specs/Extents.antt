-- What extents have of the bytes from one position of the file to another.
use Rattle.std.specs.Prelude.{ℕ, ◌-◌, List, slice_range}
use Rattle.std.specs.List.{flat_map}

-- the bytes of an extent that lie there: what is before its start counts from its start
abbrev pub part_of : ℕ → ℕ → ℕ × List ℕ → List ℕ
part_of from to extent = slice_range extent.1 (from - extent.0) (to - extent.0)

-- those of extents, one after another
abbrev pub parts_of : ℕ → ℕ → List (ℕ × List ℕ) → List ℕ
parts_of from to extents = flat_map (part_of from to) extents
