use Rattle.std.proofs.Common.{◌∷◌, ap, sym, ◌∙◌, rules}
use Rattle.atomic_table.specs.Table.{rest}
use Rattle.path_locks.specs.declared.rule.Slot.TheVariants.{Part}
use Rattle.path_locks.proofs.TakeExclusive.{may_take_exclusive}
use Rattle.path_locks.proofs.steps.exclusive.try_exclusive.Goals as goal

pub compare_exchange-requires : goal.compare_exchange-requires
compare_exchange-requires g c = (
  c.requires.own.0,
  search rules,
  may_take_exclusive g.P.Parted.object g.met.P.Parted.lawful g.P.Parted.bare g.K.Keeper.tells _ _ _ _ _ c.requires.may.0 c.requires.may.1,
)

pub exchange-requires : goal.exchange-requires
exchange-requires g c = let t = c.compare_exchange.ensures.2.0 c.if-compare_exchange-ne0.false in
    (search rules, (Part t.0, t.1.hand_is ∙ ap (λ cs. (c.args.stripe, Part t.0) ∷ rest cs) (sym t.1.hand_is)))
