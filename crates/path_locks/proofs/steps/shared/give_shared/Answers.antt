use Rattle.std.proofs.Common.{rules}
use Rattle.path_locks.proofs.GiveShared.{may_give_shared}
use Rattle.path_locks.proofs.steps.shared.give_shared.Goals as goal

pub fetch_sub-requires : goal.fetch_sub-requires
fetch_sub-requires g c = (
  c.requires.own.0,
  search rules,
  may_give_shared g.P.Parted.object g.P.Parted.bare g.K.Keeper.tells _ _ _ _ _ c.requires.may.0 c.requires.may.1,
)
