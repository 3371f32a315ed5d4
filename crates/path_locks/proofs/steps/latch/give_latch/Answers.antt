use Rattle.std.proofs.Common.{◌∙◌, rules}
use Rattle.path_locks.proofs.Latches.{may_put_latch}
use Rattle.path_locks.proofs.steps.latch.give_latch.Goals as goal

pub store-requires : goal.store-requires
store-requires g c = (
  c.exchange.ensures.0 ∙ c.requires.own.0,
  search rules,
  may_put_latch g.P.Parted.object g.met.P.Parted.lawful g.P.Parted.bare g.K.Keeper.tells _ _ _ c.args.seat.now.me c.exchange.new.seat.me _ _ c.exchange.ensures.3 c.requires.may.0 c.requires.may.1 c.requires.may.2
      c.requires.part,
)
