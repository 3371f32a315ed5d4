use Rattle.std.proofs.Common.{◌≡◌, ◌+◌, take}
use Rattle.dir_rename.specs.Lengths.{name_bytes}
use Rattle.dir_rename.proofs.lengths.left_behind.Given as goal

abbrev pub invariant-loop-name : goal.invariant-loop-name
invariant-loop-name l = l.left + name_bytes (take l.name-index l.names) ≡ l.fn.bytes
