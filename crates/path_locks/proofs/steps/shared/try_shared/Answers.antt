use Rattle.std.proofs.Common.{rules}
use Rattle.path_locks.proofs.TakeShared.{may_take_shared}
use Rattle.path_locks.proofs.steps.shared.try_shared.Goals as goal

pub compare_exchange-requires : goal.compare_exchange-requires
compare_exchange-requires g c = (
  c.requires.own.0,
  search rules,
  may_take_shared g.P.Parted.object g.P.Parted.bare g.K.Keeper.tells _ _ _ _ _ _ c.requires.may.0 c.requires.may.1 c.if-found-ge4294967295.false,
)
