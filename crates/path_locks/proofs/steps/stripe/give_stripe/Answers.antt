use Rattle.std.proofs.Common.{ap, arith, subst, sym, ◌∙◌}
use Rattle.lock_core.specs.declared.object.LockMode.{LockMode}
use Rattle.lock_core.specs.declared.machine.Hold.TheVariants.{Exclusive}
use Rattle.lock_core.specs.Machine.{HeldIn, hold_at}
use Rattle.path_locks.proofs.Below.{some_inj, gave_shared_last, gave_exclusive_last, anew, part_is_out}
use Rattle.path_locks.proofs.steps.stripe.give_stripe.Goals as goal

pub unreachable-requires : goal.unreachable-requires
unreachable-requires g c =
    let held = subst (λ (m : LockMode). HeldIn m (hold_at c.args.seat.now.me.0.at.holds c.args.stripe)) c.in-Exclusive.is c.requires.held in
    let t = part_is_out g.P.Parted.object g.P.Parted.bare c.args.stripe c.args.seat.now.me c.args.parts.now.items c.pick.result c.requires.below.1 held c.requires.below.0 c.pick.ensures.picked in
    c.in_default.not-Some t.0 t.1

pub give_exclusive-requires-clause-part : goal.give_exclusive-requires-clause-part
give_exclusive-requires-clause-part g c =
    let held = subst (λ (m : LockMode). HeldIn m (hold_at c.args.seat.now.me.0.at.holds c.args.stripe)) c.in-Exclusive.is c.requires.held in
    let t = part_is_out g.P.Parted.object g.P.Parted.bare c.args.stripe c.args.seat.now.me c.args.parts.now.items c.pick.result c.requires.below.1 held c.requires.below.0 c.pick.ensures.picked in
    t.2 ∙ ap (λ (y : g.row.P-Part.Denot). Exclusive (g.P.Parted.bare y)) (some_inj t.0 c.in-Some.part (sym t.1 ∙ c.in-Some.is))

pub returns-in-Shared-clause-holds : goal.returns-in-Shared-clause-holds
returns-in-Shared-clause-holds g c =
    let held = subst (λ (m : LockMode). HeldIn m (hold_at c.args.seat.now.me.0.at.holds c.args.stripe)) c.in-Shared.is c.requires.held in
    gave_shared_last g.P.Parted.object g.P.Parted.bare _ _ _ _ c.requires.below.1 held c.give_shared.ensures.given c.requires.below.0

pub returns-in-Shared-clause-anew : goal.returns-in-Shared-clause-anew
returns-in-Shared-clause-anew g c =
    let b = c.requires.below.1 in
    anew _ _ _ _ _ (omega (arith, b.stands.wide, c.requires.below.0)) tt c.give_shared.ensures.given.view

pub returns-in-Some-clause-holds : goal.returns-in-Some-clause-holds
returns-in-Some-clause-holds g c =
    let held = subst (λ (m : LockMode). HeldIn m (hold_at c.args.seat.now.me.0.at.holds c.args.stripe)) c.in-Exclusive.is c.requires.held in
    gave_exclusive_last g.P.Parted.object g.P.Parted.bare _ _ _ _ _ c.requires.below.1 held c.give_exclusive.ensures.given c.pick.ensures.left c.requires.below.0

pub returns-in-Some-clause-anew : goal.returns-in-Some-clause-anew
returns-in-Some-clause-anew g c =
    let b = c.requires.below.1 in
    anew _ _ _ _ _ (omega (arith, b.stands.wide, c.requires.below.0)) tt c.give_exclusive.ensures.given.view
