use Rattle.std.proofs.Common.{◌≡◌, ◌++◌, []}
use Rattle.std.specs.Vec.Iter.{into_iter_items}
use Rattle.lock_core.specs.Sound.{opened}
use Rattle.lock_core.specs.Invariant.{Invariant}
use Rattle.lock_core.specs.Runs.{Runs}
use Rattle.lock_core.proofs.run.run_events.Given as goal

abbrev pub invariant-loop-event : goal.invariant-loop-event
invariant-loop-event g l = record {
  left : l.yielded ++ into_iter_items l.event-iterator ≡ l.fn.events.items;
  so_far : Runs g.P.Parted.object (opened g.P.Parted.object []) l.yielded l.core;
  kept : Invariant g.P.Parted.object [] l.core;
}
