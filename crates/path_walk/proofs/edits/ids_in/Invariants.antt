use Rattle.std.proofs.Common.{◌≡◌, take}
use Rattle.path_walk.specs.Batches.{ids_in}
use Rattle.path_walk.proofs.edits.ids_in.Given as goal

abbrev pub invariant-loop-edit : goal.invariant-loop-edit
invariant-loop-edit l = l.ids.items ≡ ids_in (take l.edit-index l.edits)
