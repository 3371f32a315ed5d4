use Rattle.std.proofs.Common.{rules}
use Rattle.path_locks.proofs.JoinSeat.{may_join}
use Rattle.path_locks.proofs.steps.seats.join_seats.Goals as goal

pub join_seat-requires : goal.join_seat-requires
join_seat-requires g c = (
  c.requires.own.0,
  c.requires.own.1,
  c.requires.rest.2,
  search rules,
  may_join g.P.Parted.object g.P.Parted.bare g.K.Keeper.tells _ _ _ _ _ c.requires.rest.0 c.requires.rest.1,
)
