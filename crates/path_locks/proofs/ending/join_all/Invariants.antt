use Rattle.std.proofs.Common.{◌≡◌, ◌⊎◌, ℕ, length, slice_get, Some}
use Rattle.lock_core.specs.Machine.{known}
use Rattle.path_locks.specs.Plays.{IsResting}
use Rattle.path_locks.specs.Views.{SeatView, Knew}
use Rattle.path_locks.proofs.ending.join_all.Given as goal

abbrev pub invariant-loop-other : goal.invariant-loop-other
invariant-loop-other g l = record {
  own : l.seat.table_id ≡ l.words.table_id;
  rest : IsResting l.seat.me.0.at;
  left : (k : ℕ) (s : SeatView g.row.P-Part.Denot g.row.P-Entry.Denot g.row.K.Denot) → slice_get l.seats.items k ≡ Some s → slice_get l.fn.seats.items k ≡ Some s;
  known : (k : ℕ) (s : SeatView g.row.P-Part.Denot g.row.P-Entry.Denot g.row.K.Denot) → slice_get l.fn.seats.items k ≡ Some s
      → (slice_get l.seats.items k ≡ Some s) ⊎ Knew l.seat.me.0 (known s.me.0.at);
}

abbrev pub decreases-loop-other : goal.decreases-loop-other
decreases-loop-other g l = length l.seats.items
