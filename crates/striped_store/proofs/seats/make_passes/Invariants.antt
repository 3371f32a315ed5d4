use Rattle.std.proofs.Common.{◌≡◌, ◌++◌, length}
use Rattle.std.specs.Vec.Iter.{into_iter_items}
use Rattle.striped_store.specs.Views.{AreOpenPasses}
use Rattle.striped_store.proofs.seats.make_passes.Given as goal

abbrev pub invariant-loop-seat : goal.invariant-loop-seat
invariant-loop-seat g l = record {
  left : l.yielded ++ into_iter_items l.seat-iterator ≡ l.fn.seats.items;
  count : l.number ≡ length l.yielded;
  many : length l.passes.items ≡ length l.yielded;
  new : AreOpenPasses g.P.Parted.object l.table l.passes.items;
}
