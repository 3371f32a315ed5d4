use Rattle.std.proofs.Common.{◌≡◌, take}
use Rattle.path_walk.specs.Removals.{removals}
use Rattle.path_walk.proofs.removals.removals.Given as goal

abbrev pub invariant-loop-id : goal.invariant-loop-id
invariant-loop-id l = l.changes.items ≡ removals l.fn.base l.fn.name (take l.id-index l.taken)
