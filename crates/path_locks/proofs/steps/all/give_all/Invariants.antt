use Rattle.std.proofs.Common.{◌≡◌, ◌-◌}
use Rattle.path_locks.specs.Plans.{AreHeld}
use Rattle.path_locks.specs.Holding.{IsReheld, HoldsBelow}
use Rattle.path_locks.proofs.steps.all.give_all.Given as goal

abbrev pub invariant-loop-done : goal.invariant-loop-done
invariant-loop-done g l = record {
  own : l.seat.table_id ≡ l.fn.seat.table_id;
  id : l.seat.id ≡ l.fn.seat.id;
  holds : HoldsBelow g.P.Parted.object g.P.Parted.bare (64 - l.done) l.seat.me l.parts.items;
  held : AreHeld l.plan (64 - l.done) l.seat.me.0.at.holds;
  same : IsReheld l.fn.seat.me.0 l.seat.me.0;
}
