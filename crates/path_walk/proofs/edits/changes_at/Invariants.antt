use Rattle.std.proofs.Common.{◌≡◌, ◌++◌}
use Rattle.std.specs.Vec.Iter.{into_iter_items}
use Rattle.path_walk.specs.Edits.{changes_at}
use Rattle.path_walk.proofs.edits.changes_at.Given as goal

abbrev pub invariant-loop-edit : goal.invariant-loop-edit
invariant-loop-edit l = record {
  left : l.yielded ++ into_iter_items l.edit-iterator ≡ l.fn.edits.items;
  made : l.changes.items ≡ changes_at l.id l.yielded;
}
