use Rattle.std.proofs.Common.{◌∷◌, refl, ap, sym, ◌∙◌, rules}
use Rattle.atomic_table.specs.Table.{rest}
use Rattle.path_locks.specs.declared.rule.Slot.TheVariants.{Part}
use Rattle.path_locks.proofs.Latches.{may_try_latch}
use Rattle.path_locks.proofs.Looks.{in_hand, latch_swapped}
use Rattle.path_locks.proofs.steps.latch.try_latch.Goals as goal

pub compare_exchange-requires : goal.compare_exchange-requires
compare_exchange-requires g c = (
  c.requires.own.0,
  search rules,
  may_try_latch g.P.Parted.object g.met.P.Parted.lawful g.P.Parted.bare g.K.Keeper.tells _ _ _ _ _ c.requires.may.0 c.requires.may.1,
)

pub exchange-requires : goal.exchange-requires
exchange-requires g c = let t = (c.compare_exchange.ensures.2 c.args.stripe refl).0 c.if-compare_exchange-ne0.false in
    (search rules, (Part t.0, t.1.hand_is ∙ ap (λ cs. (c.args.stripe, Part t.0) ∷ rest cs) (sym t.1.hand_is)))

pub returns-then-compare_exchange-ne0-clause-taken : goal.returns-then-compare_exchange-ne0-clause-taken
returns-then-compare_exchange-ne0-clause-taken g c = (c.compare_exchange.ensures.2 c.args.stripe refl).1 c.if-compare_exchange-ne0.true

pub unreachable-requires : goal.unreachable-requires
unreachable-requires g c =
    let t = (c.compare_exchange.ensures.2 c.args.stripe refl).0 c.if-compare_exchange-ne0.false in
    c.in_default.not-Part t.0 (in_hand _ _ _ _ _ _ c.exchange.ensures.2 t.1.hand_is)

pub returns-clause-taken : goal.returns-clause-taken
returns-clause-taken g c =
    let t = (c.compare_exchange.ensures.2 c.args.stripe refl).0 c.if-compare_exchange-ne0.false in
    latch_swapped g.P.Parted.object g.P.Parted.bare _ _ _ _ _ _ _ t.1 c.exchange.ensures.2 c.in-Part.is c.exchange.ensures.3
