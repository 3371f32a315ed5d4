use Rattle.std.proofs.Common.{rules}
use Rattle.path_locks.proofs.MakeSeat.{may_split}
use Rattle.path_locks.proofs.steps.seats.split_seat.Goals as goal

pub split_seat-requires : goal.split_seat-requires
split_seat-requires g c = (
  c.requires.own.0,
  search rules,
  may_split g.P.Parted.object g.P.Parted.bare g.K.Keeper.tells _ _ _ c.requires.room.0 c.requires.room.1 c.requires.live,
)
