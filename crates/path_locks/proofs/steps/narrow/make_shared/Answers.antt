use Rattle.std.proofs.Common.{◌∙◌, rules}
use Rattle.path_locks.proofs.Latches.{may_make_shared, made_shared_with}
use Rattle.path_locks.proofs.steps.narrow.make_shared.Goals as goal

pub store-requires : goal.store-requires
store-requires g c = (
  c.exchange.ensures.0 ∙ c.requires.own.0,
  search rules,
  may_make_shared g.P.Parted.object g.met.P.Parted.lawful g.P.Parted.bare g.K.Keeper.tells _ _ _ c.args.seat.now.me c.exchange.new.seat.me _ _ c.exchange.ensures.3 c.requires.may.0 c.requires.may.1 c.requires.part,
)

pub returns-clause-given : goal.returns-clause-given
returns-clause-given g c = made_shared_with g.P.Parted.object g.P.Parted.bare c.args.seat.now.me c.exchange.new.seat.me _ _ _ _ c.exchange.ensures.3 c.requires.part c.store.ensures.2
