use Rattle.std.proofs.Common.{◌∙◌, rules}
use Rattle.path_locks.proofs.Commits.{may_put_longer, longer_put}
use Rattle.path_locks.proofs.steps.journal.put_longer.Goals as goal

pub store-requires : goal.store-requires
store-requires g c = (
  c.exchange.ensures.0 ∙ c.requires.own.0,
  search rules,
  may_put_longer g.P.Parted.object g.K.Keeper.tells g.met.P.Parted.lawful g.P.Parted.bare _ _ _ c.args.seat.now.me c.exchange.new.seat.me _ _ c.requires.entry.0 c.exchange.ensures.3 c.requires.has.0 c.requires.has.1
      c.requires.entry.1 c.requires.limits c.requires.keeper.0 c.requires.keeper.1 c.requires.entry.2,
)

pub returns-clause-given : goal.returns-clause-given
returns-clause-given g c = λ e is. longer_put g.P.Parted.object g.K.Keeper.tells c.args.words.now.table_id.slots c.args.seat.now.me c.exchange.new.seat.me _ _ _ e c.exchange.ensures.3 is c.store.ensures.2
