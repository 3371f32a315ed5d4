use Rattle.std.proofs.Common.{◌≡◌}
use Rattle.path_locks.specs.Plans.{AreHeld}
use Rattle.path_locks.specs.Holding.{IsReheld, HoldsBelow}
use Rattle.path_locks.proofs.steps.all.take_all.Given as goal

abbrev pub invariant-loop-stripe : goal.invariant-loop-stripe
invariant-loop-stripe g l = record {
  own : l.seat.table_id ≡ l.fn.seat.table_id;
  id : l.seat.id ≡ l.fn.seat.id;
  holds : HoldsBelow g.P.Parted.object g.P.Parted.bare l.stripe l.seat.me l.parts.items;
  held : AreHeld l.plan l.stripe l.seat.me.0.at.holds;
  same : IsReheld l.fn.seat.me.0 l.seat.me.0;
}
