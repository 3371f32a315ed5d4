use Rattle.std.proofs.Common.{arith, subst, sym}
use Rattle.lock_core.specs.declared.object.LockMode.{LockMode}
use Rattle.lock_core.specs.Machine.{HeldIn, hold_at}
use Rattle.path_locks.specs.Holding.{HeldAnew}
use Rattle.path_locks.proofs.Below.{passed_over, took_shared_next, took_exclusive_next, anew, anew_none}
use Rattle.path_locks.proofs.steps.stripe.take_stripe.Goals as goal

pub returns-in-None-clause-holds : goal.returns-in-None-clause-holds
returns-in-None-clause-holds g c = passed_over g.P.Parted.object g.P.Parted.bare _ _ _ c.requires.below.1

pub returns-in-None-clause-anew : goal.returns-in-None-clause-anew
returns-in-None-clause-anew g c =
    let b = c.requires.below.1 in
    anew_none c.args.seat.now.me.0 c.args.stripe c.args.mode
    (subst (λ (m : LockMode). HeldIn m (hold_at c.args.seat.now.me.0.at.holds c.args.stripe)) (sym c.in-None.is) (b.above c.args.stripe (omega arith)))

pub returns-in-Shared-clause-holds : goal.returns-in-Shared-clause-holds
returns-in-Shared-clause-holds g c =
    took_shared_next g.P.Parted.object g.P.Parted.bare _ _ _ _ c.requires.below.1 c.lock_shared.ensures.taken c.requires.below.0

pub returns-in-Shared-clause-anew : goal.returns-in-Shared-clause-anew
returns-in-Shared-clause-anew g c =
    let b = c.requires.below.1 in
    subst (λ (m : LockMode). HeldAnew c.args.stripe m c.args.seat.now.me.0 c.lock_shared.new.seat.me.0) (sym c.in-Shared.is)
    (anew _ _ _ _ _ (omega (arith, b.stands.wide, c.requires.below.0)) tt c.lock_shared.ensures.taken.view)

pub returns-in-Exclusive-clause-holds : goal.returns-in-Exclusive-clause-holds
returns-in-Exclusive-clause-holds g c =
    took_exclusive_next g.P.Parted.object g.P.Parted.bare _ _ _ _ _ _ c.requires.below.1 c.lock_exclusive-part.ensures.taken c.put.ensures c.requires.below.0

pub returns-in-Exclusive-clause-anew : goal.returns-in-Exclusive-clause-anew
returns-in-Exclusive-clause-anew g c =
    let b = c.requires.below.1 in
    subst (λ (m : LockMode). HeldAnew c.args.stripe m c.args.seat.now.me.0 c.lock_exclusive-part.new.seat.me.0) (sym c.in-Exclusive.is)
    (anew _ _ _ _ _ (omega (arith, b.stands.wide, c.requires.below.0)) tt c.lock_exclusive-part.ensures.taken.view)
