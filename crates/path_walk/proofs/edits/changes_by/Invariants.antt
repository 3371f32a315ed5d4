use Rattle.std.proofs.Common.{◌≡◌, ◌++◌}
use Rattle.std.specs.Vec.Iter.{into_iter_items}
use Rattle.path_walk.specs.Batches.{changes_by}
use Rattle.path_walk.proofs.edits.changes_by.Given as goal

abbrev pub invariant-loop-id : goal.invariant-loop-id
invariant-loop-id l = record {
  left : l.yielded ++ into_iter_items l.id-iterator ≡ l.fn.edits.items;
  made : l.changes.items ≡ changes_by l.yielded;
}
