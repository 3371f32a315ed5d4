use Rattle.std.proofs.Common.{refl}
use Rattle.lock_core.specs.declared.object.LockMode.{LockMode}
use Rattle.lock_core.specs.Machine.{HeldIn, hold_at}
use Rattle.std.proofs.Common.{subst}
use Rattle.path_locks.proofs.Rounds.{round_free, narrowed_not, narrowed_none, held_after}
use Rattle.path_locks.proofs.steps.narrow.narrow_stripe.Goals as goal

pub returns-in-None-clause-round : goal.returns-in-None-clause-round
returns-in-None-clause-round g c =
    round_free g.P.Parted.object g.P.Parted.bare c.args.stripe c.args.seat.now.me c.args.seat.now.me c.args.parts.now.items c.requires.round.0 c.requires.round.1 refl
    (subst (λ (m : LockMode). HeldIn m (hold_at c.args.seat.now.me.0.at.holds c.args.stripe)) c.in-None.is c.requires.held)

pub returns-in-None-clause-narrowed : goal.returns-in-None-clause-narrowed
returns-in-None-clause-narrowed g c =
    narrowed_not c.args.seat.now.me.0 c.args.seat.now.me.0 c.args.stripe c.args.keep
    (narrowed_none c.args.keep c.args.mode (hold_at c.args.seat.now.me.0.at.holds c.args.stripe) c.in-None.is c.requires.below c.requires.held) refl

pub returns-in-None-clause-held : goal.returns-in-None-clause-held
returns-in-None-clause-held g c =
    held_after c.args.stripe c.args.keep c.args.mode c.args.seat.now.me.0 c.args.seat.now.me.0
    (narrowed_not c.args.seat.now.me.0 c.args.seat.now.me.0 c.args.stripe c.args.keep
    (narrowed_none c.args.keep c.args.mode (hold_at c.args.seat.now.me.0.at.holds c.args.stripe) c.in-None.is c.requires.below c.requires.held) refl) c.requires.below c.requires.held

pub returns-in-Shared-clause-held : goal.returns-in-Shared-clause-held
returns-in-Shared-clause-held g c = held_after c.args.stripe c.args.keep c.args.mode c.args.seat.now.me.0 _ c.narrow_shared.ensures.narrowed c.requires.below c.requires.held

pub returns-in-Exclusive-clause-held : goal.returns-in-Exclusive-clause-held
returns-in-Exclusive-clause-held g c = held_after c.args.stripe c.args.keep c.args.mode c.args.seat.now.me.0 _ c.narrow_exclusive.ensures.narrowed c.requires.below c.requires.held
