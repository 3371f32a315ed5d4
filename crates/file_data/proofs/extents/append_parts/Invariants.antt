use Rattle.std.proofs.Common.{◌≡◌, ◌≤◌, ◌+◌, ◌++◌, length, take, drop}
use Rattle.std.specs.Prelude.{vec_len, vec_capacity}
use Rattle.file_data.specs.Extents.{parts_of}
use Rattle.file_data.proofs.extents.append_parts.Given as goal

abbrev pub invariant-loop-extent : goal.invariant-loop-extent
invariant-loop-extent l =
    (l.out.items ≡ l.initial.out.items ++ parts_of l.from l.to (take l.extent-index l.extents))
    × (vec_len l.out + length (parts_of l.from l.to (drop l.extent-index l.extents)) ≤ vec_capacity l.out)
