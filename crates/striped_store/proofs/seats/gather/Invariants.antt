use Rattle.std.proofs.Common.{◌≡◌, ◌<◌, ◌++◌, length, map, vec_capacity}
use Rattle.std.specs.Vec.Iter.{into_iter_items}
use Rattle.striped_store.proofs.Passing.{seat_of}
use Rattle.striped_store.proofs.seats.gather.Given as goal

abbrev pub invariant-loop-pass : goal.invariant-loop-pass
invariant-loop-pass g l = record {
  left : l.yielded ++ into_iter_items l.pass-iterator ≡ l.fn.passes.items;
  taken : l.seats.items ≡ map seat_of l.yielded;
  room : length l.fn.passes.items < vec_capacity l.seats;
}
