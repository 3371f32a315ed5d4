use Rattle.std.proofs.Common.{◌∷◌, ap, sym, ◌∙◌, rules}
use Rattle.atomic_table.specs.Table.{rest}
use Rattle.path_locks.specs.declared.rule.Slot.TheVariants.{Book}
use Rattle.path_locks.proofs.TakeJournal.{may_take_journal}
use Rattle.path_locks.proofs.steps.journal.try_journal.Goals as goal

pub compare_exchange-requires : goal.compare_exchange-requires
compare_exchange-requires g c = (
  c.requires.own.0,
  search rules,
  may_take_journal g.P.Parted.object g.P.Parted.bare g.K.Keeper.tells _ _ _ _ c.requires.quiet,
)

pub exchange-requires : goal.exchange-requires
exchange-requires g c = let t = c.compare_exchange.ensures.2.0 c.if-compare_exchange-ne0.false in
    (search rules, (Book t.0 t.1, t.2.hand_is ∙ ap (λ cs. (64, Book t.0 t.1) ∷ rest cs) (sym t.2.hand_is)))
