use Rattle.std.proofs.Common.{◌∙◌, rules}
use Rattle.path_locks.proofs.GiveJournal.{may_put_journal, journal_put}
use Rattle.path_locks.proofs.steps.journal.put_journal.Goals as goal

pub store-requires : goal.store-requires
store-requires g c = (
  c.exchange.ensures.0 ∙ c.requires.own.0,
  search rules,
  may_put_journal g.P.Parted.object g.met.P.Parted.lawful g.P.Parted.bare g.K.Keeper.tells _ _ _ c.args.seat.now.me c.exchange.new.seat.me _ _ c.exchange.ensures.3 c.requires.has.0
      c.requires.has.1 c.requires.unchanged.0 c.requires.unchanged.1 c.requires.keeper.0 c.requires.keeper.1,
)

pub returns-clause-given : goal.returns-clause-given
returns-clause-given g c = journal_put g.P.Parted.object g.K.Keeper.tells c.args.words.now.table_id.slots c.args.seat.now.me c.exchange.new.seat.me _ _ _ c.exchange.ensures.3 c.store.ensures.2
