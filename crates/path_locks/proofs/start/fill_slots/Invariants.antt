use Rattle.std.proofs.Common.{◌≡◌, ◌++◌, map, length}
use Rattle.std.specs.Prelude.{reverse}
use Rattle.path_locks.specs.Rule.{in_slot, shelf}
use Rattle.path_locks.proofs.start.fill_slots.Given as goal

abbrev pub invariant-loop-part : goal.invariant-loop-part
invariant-loop-part g l = map in_slot l.parts.items ++ reverse l.slots.items ≡ shelf l.fn.parts.items l.fn.journal l.fn.keeper

abbrev pub decreases-loop-part : goal.decreases-loop-part
decreases-loop-part g l = length l.parts.items
