use Rattle.std.proofs.Common.{◌∙◌, rules}
use Rattle.path_locks.proofs.GiveExclusive.{may_give_back}
use Rattle.path_locks.proofs.steps.exclusive.give_exclusive.Goals as goal

pub store-requires : goal.store-requires
store-requires g c = (
  c.exchange.ensures.0 ∙ c.requires.own.0,
  search rules,
  may_give_back g.P.Parted.object g.P.Parted.bare g.K.Keeper.tells _ _ _ c.args.seat.now.me c.exchange.new.seat.me _ _ c.exchange.ensures.3 c.requires.may.0 c.requires.may.1 c.requires.part,
)
