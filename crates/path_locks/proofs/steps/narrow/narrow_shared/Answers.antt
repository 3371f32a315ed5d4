use Rattle.std.proofs.Common.{refl, sym, subst, arith}
use Rattle.lock_core.specs.declared.object.LockMode.{LockMode}
use Rattle.lock_core.specs.declared.object.LockMode.TheVariants as mode
use Rattle.lock_core.specs.Machine.{hold_at}
use Rattle.path_locks.specs.Narrow.{IsNarrowedAt}
use Rattle.path_locks.proofs.Rounds.{round_gave_shared, round_shared, narrowed_at, narrowed_not, narrowed_own}
use Rattle.path_locks.proofs.steps.narrow.narrow_shared.Goals as goal

pub returns-in-None-clause-round : goal.returns-in-None-clause-round
returns-in-None-clause-round g c =
    round_gave_shared g.P.Parted.object g.P.Parted.bare _ c.args.seat.now.me c.give_shared.new.seat.me c.args.parts.now.items c.requires.round.0 c.requires.round.1 c.requires.held c.give_shared.ensures.given

pub returns-in-None-clause-narrowed : goal.returns-in-None-clause-narrowed
returns-in-None-clause-narrowed g c =
    let b = c.requires.round.1 in
    subst (λ (m : LockMode). IsNarrowedAt c.args.stripe m c.args.seat.now.me.0 c.give_shared.new.seat.me.0) (sym c.in-None.is)
    (narrowed_at _ _ _ _ mode.None (omega (arith, b.stands.wide, c.requires.round.0)) refl c.give_shared.ensures.given.view)

pub returns-in-Shared-clause-round : goal.returns-in-Shared-clause-round
returns-in-Shared-clause-round g c =
    round_shared g.P.Parted.object g.P.Parted.bare c.args.stripe c.args.seat.now.me c.args.seat.now.me c.args.parts.now.items c.requires.round.0 c.requires.round.1 refl c.requires.held

pub returns-in-Shared-clause-narrowed : goal.returns-in-Shared-clause-narrowed
returns-in-Shared-clause-narrowed g c =
    subst (λ (m : LockMode). IsNarrowedAt c.args.stripe m c.args.seat.now.me.0 c.args.seat.now.me.0) (sym c.in-Shared.is)
    (narrowed_not c.args.seat.now.me.0 c.args.seat.now.me.0 c.args.stripe mode.Shared (narrowed_own mode.Shared (hold_at c.args.seat.now.me.0.at.holds c.args.stripe) c.requires.held) refl)
