use Rattle.std.proofs.Common.{◌≡◌, replicate, map, None}
use Rattle.path_locks.proofs.start.empty_rooms.Given as goal

abbrev pub invariant-loop-seat : goal.invariant-loop-seat
invariant-loop-seat g l = map (λ room. room.items) l.rooms.items ≡ replicate l._seat (replicate 64 None)
