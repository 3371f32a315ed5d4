use Rattle.std.proofs.Common.{◌≡◌, ◌-◌}
use Rattle.path_locks.specs.Holding.{IsReheld}
use Rattle.path_locks.specs.Narrow.{AreNarrowedFrom, IsRound}
use Rattle.path_locks.proofs.steps.narrow.narrow_all.Given as goal

abbrev pub invariant-loop-done : goal.invariant-loop-done
invariant-loop-done g l = record {
  own : l.seat.table_id ≡ l.fn.seat.table_id;
  id : l.seat.id ≡ l.fn.seat.id;
  round : IsRound g.P.Parted.object g.P.Parted.bare (64 - l.done) l.seat.me l.parts.items;
  narrowed : AreNarrowedFrom (64 - l.done) l.keep l.fn.seat.me.0.at.holds l.seat.me.0.at.holds;
  same : IsReheld l.fn.seat.me.0 l.seat.me.0;
}
