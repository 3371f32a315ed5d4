use Rattle.std.proofs.Common.{refl, ap, sym, subst, arith}
use Rattle.lock_core.specs.declared.object.LockMode.{LockMode}
use Rattle.lock_core.specs.declared.object.LockMode.TheVariants as mode
use Rattle.lock_core.specs.declared.machine.Hold.TheVariants.{Free, Looked}
use Rattle.lock_core.specs.Machine.{downgraded}
use Rattle.path_locks.specs.Narrow.{IsNarrowedAt}
use Rattle.path_locks.proofs.Rounds.{round_gave_exclusive, round_exclusive, round_first, round_out, round_taken, round_may, narrowed_at}
use Rattle.path_locks.proofs.steps.narrow.narrow_exclusive.Goals as goal

pub take_part-part-requires : goal.take_part-part-requires
take_part-part-requires g c =
    round_out g.P.Parted.object g.P.Parted.bare c.args.stripe c.args.seat.now.me c.args.seat.now.me c.args.parts.now.items c.requires.round.0 c.requires.round.1 c.requires.held

pub give_exclusive-requires-clause-may : goal.give_exclusive-requires-clause-may
give_exclusive-requires-clause-may g c =
    (c.requires.round.0, round_may g.P.Parted.object g.P.Parted.bare c.args.stripe c.args.seat.now.me c.args.seat.now.me c.args.parts.now.items c.requires.round.0 c.requires.round.1 mode.Exclusive c.requires.held)

pub give_exclusive-requires-clause-part : goal.give_exclusive-requires-clause-part
give_exclusive-requires-clause-part g c =
    round_taken g.P.Parted.object g.P.Parted.bare c.args.stripe c.args.seat.now.me c.args.seat.now.me c.args.parts.now.items c.requires.round.0 c.requires.round.1 _ c.requires.held c.take_part-part.ensures.taken

pub give_exclusive-requires-clause-last : goal.give_exclusive-requires-clause-last
give_exclusive-requires-clause-last g c =
    round_first g.P.Parted.object g.P.Parted.bare c.args.stripe c.args.seat.now.me c.args.seat.now.me c.args.parts.now.items c.requires.round.0 c.requires.round.1 c.requires.held

pub returns-in-None-clause-round : goal.returns-in-None-clause-round
returns-in-None-clause-round g c =
    round_gave_exclusive g.P.Parted.object g.P.Parted.bare c.args.stripe c.args.seat.now.me c.give_exclusive.new.seat.me c.args.parts.now.items c.requires.round.0 c.requires.round.1
    Free _ c.requires.held (λ hand. refl) refl c.give_exclusive.ensures.given c.take_part-part.ensures.left

pub returns-in-None-clause-narrowed : goal.returns-in-None-clause-narrowed
returns-in-None-clause-narrowed g c =
    let b = c.requires.round.1 in
    subst (λ (m : LockMode). IsNarrowedAt c.args.stripe m c.args.seat.now.me.0 c.give_exclusive.new.seat.me.0) (sym c.in-None.is)
    (narrowed_at _ _ _ _ mode.None (omega (arith, b.stands.wide, c.requires.round.0)) refl c.give_exclusive.ensures.given.view)

pub take_part-part-requires-in-Shared : goal.take_part-part-requires-in-Shared
take_part-part-requires-in-Shared g c = round_out g.P.Parted.object g.P.Parted.bare c.args.stripe c.args.seat.now.me c.args.seat.now.me c.args.parts.now.items c.requires.round.0 c.requires.round.1 c.requires.held

pub make_shared-requires-clause-part : goal.make_shared-requires-clause-part
make_shared-requires-clause-part g c = round_taken g.P.Parted.object g.P.Parted.bare c.args.stripe c.args.seat.now.me c.args.seat.now.me c.args.parts.now.items c.requires.round.0 c.requires.round.1 _ c.requires.held c.take_part-part-in-Shared.ensures.taken

pub returns-in-Shared-clause-round : goal.returns-in-Shared-clause-round
returns-in-Shared-clause-round g c =
    round_gave_exclusive g.P.Parted.object g.P.Parted.bare c.args.stripe c.args.seat.now.me c.make_shared.new.seat.me c.args.parts.now.items c.requires.round.0 c.requires.round.1 (Looked (g.P.Parted.bare c.take_part-part-in-Shared.result)) _ c.requires.held (λ hand. refl) refl c.make_shared.ensures.given
    c.take_part-part-in-Shared.ensures.left

pub returns-in-Shared-clause-narrowed : goal.returns-in-Shared-clause-narrowed
returns-in-Shared-clause-narrowed g c =
    let b = c.requires.round.1 in
    let note = round_taken g.P.Parted.object g.P.Parted.bare c.args.stripe c.args.seat.now.me c.args.seat.now.me c.args.parts.now.items c.requires.round.0 c.requires.round.1 _ c.requires.held c.take_part-part-in-Shared.ensures.taken in
    subst (λ (m : LockMode). IsNarrowedAt c.args.stripe m c.args.seat.now.me.0 c.make_shared.new.seat.me.0) (sym c.in-Shared.is)
    (narrowed_at _ _ _ (Looked (g.P.Parted.bare c.take_part-part-in-Shared.result)) mode.Shared (omega (arith, b.stands.wide, c.requires.round.0)) (ap downgraded (sym note)) c.make_shared.ensures.given.view)

pub returns-in-Exclusive-clause-round : goal.returns-in-Exclusive-clause-round
returns-in-Exclusive-clause-round g c = round_exclusive g.P.Parted.object g.P.Parted.bare c.args.stripe c.args.seat.now.me c.turn.new.self.me c.args.parts.now.items c.requires.round.0 c.requires.round.1 c.turn.ensures.2 c.requires.held
