use Rattle.std.proofs.Common.{◌≡◌, replicate, None}
use Rattle.path_locks.proofs.start.empty_room.Given as goal

abbrev pub invariant-loop-place : goal.invariant-loop-place
invariant-loop-place g l = l.room.items ≡ replicate l._place None
