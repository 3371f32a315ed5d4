use Rattle.std.proofs.Common.{◌≡◌, ℕ, ◌+◌, ◌≤◌, [], length, map, slice_get, replicate, None, Some}
use Rattle.std.specs.Vec.{vec_capacity}
use Rattle.path_locks.specs.Rule.{first_view}
use Rattle.path_locks.specs.Views.{SeatView, counting, table_of, IsNewSeat}
use Rattle.path_locks.proofs.seating.make_seats.Given as goal

abbrev pub invariant-loop-room : goal.invariant-loop-room
invariant-loop-room g l = record {
  own : l.first.table_id ≡ l.words.table_id;
  first : l.first.me ≡ (counting (first_view g.P.Parted.object g.K.Keeper.tells l.words.key) (length l.seats.items + 1), []);
  rooms : map (λ room. room.items) l.rooms.items ≡ replicate (length l.rooms.items) (replicate 64 None);
  left : length l.rooms.items + length l.seats.items + 1 ≡ l.words.key.seats;
  capacity : l.words.key.seats ≤ vec_capacity l.seats;
  new : (k : ℕ) (s : SeatView g.row.P-Part.Denot g.row.P-Entry.Denot g.row.K.Denot) → slice_get l.seats.items k ≡ Some s → IsNewSeat g.P.Parted.object (table_of g.K.Keeper.tells l.words.table_id l.words.key) (k + 1) s;
}

abbrev pub decreases-loop-room : goal.decreases-loop-room
decreases-loop-room g l = length l.rooms.items
