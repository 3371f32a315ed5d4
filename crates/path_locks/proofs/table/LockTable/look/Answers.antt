use Rattle.std.proofs.Common.{◌≡◌, slice_get, ap, sym, ◌∙◌, subst, arith}
use Rattle.std.specs.Prelude.{Some}
use Rattle.lock_core.specs.declared.object.LockMode.{LockMode}
use Rattle.lock_core.specs.declared.object.LockMode.TheVariants as mode
use Rattle.lock_core.specs.Machine.{hold_at, note_of}
use Rattle.path_locks.specs.Views.{SeatView, HeldView, has_journal, IsHeldBy}
use Rattle.path_locks.proofs.Betweens.{between_all}
use Rattle.path_locks.proofs.Looks.{may_look, looked_held, looked_note, looked_again, looked_others, out_there, out_noted}
use Rattle.path_locks.proofs.table.LockTable.look.Goals as goal

pub look_shared-requires-clause-may : goal.look_shared-requires-clause-may
look_shared-requires-clause-may g c =
    let s : SeatView g.row.P-Part.Denot g.row.P-Entry.Denot g.row.K.Denot =
    record { table = c.seat.inside.seat.table_id; id = c.seat.inside.seat.id; me = c.seat.inside.seat.me; room = c.seat.inside.room.items } in
    let h : HeldView g.row.P-Part.Denot = record { modes = c.held.inside.plan; parts = c.held.inside.parts.items; wide = c.held.inside.wide } in
    let held : IsHeldBy g.P.Parted.bare s h = subst (λ (z : SeatView g.row.P-Part.Denot g.row.P-Entry.Denot g.row.K.Denot). IsHeldBy g.P.Parted.bare z h) (sym c.seat.view_is)
    (subst (λ (z : HeldView g.row.P-Part.Denot). IsHeldBy g.P.Parted.bare c.args.seat.now z) (sym c.held.view_is) c.requires.held) in
    let t : SeatView g.row.P-Part.Denot g.row.P-Entry.Denot g.row.K.Denot =
    record { table = c.seat.inside.seat.table_id; id = c.seat.inside.seat.id; me = c.seat.inside.seat.me; room = c.seat.inside.room.items } in
    let at : slice_get c.held.inside.plan c.args.stripe ≡ Some mode.Shared = c.mode.ensures ∙ ap (λ (z : LockMode). Some z) c.in-Shared.is in
    (c.requires.stripe, may_look g.P.Parted.bare s h c.args.stripe c.requires.stripe at held c.seat.invariant.stands.live (ap (λ (z : SeatView g.row.P-Part.Denot g.row.P-Entry.Denot g.row.K.Denot). has_journal z) c.seat.view_is ∙ c.requires.journal))

pub look_shared-requires-clause-there : goal.look_shared-requires-clause-there
look_shared-requires-clause-there g c =
    omega (arith, c.seat.invariant.stands.wide, c.requires.stripe)

pub look_exclusive-requires-clause-there : goal.look_exclusive-requires-clause-there
look_exclusive-requires-clause-there g c =
    let s : SeatView g.row.P-Part.Denot g.row.P-Entry.Denot g.row.K.Denot =
    record { table = c.seat.inside.seat.table_id; id = c.seat.inside.seat.id; me = c.seat.inside.seat.me; room = c.seat.inside.room.items } in
    let h : HeldView g.row.P-Part.Denot = record { modes = c.held.inside.plan; parts = c.held.inside.parts.items; wide = c.held.inside.wide } in
    let held : IsHeldBy g.P.Parted.bare s h = subst (λ (z : SeatView g.row.P-Part.Denot g.row.P-Entry.Denot g.row.K.Denot). IsHeldBy g.P.Parted.bare z h) (sym c.seat.view_is)
    (subst (λ (z : HeldView g.row.P-Part.Denot). IsHeldBy g.P.Parted.bare c.args.seat.now z) (sym c.held.view_is) c.requires.held) in
    let at : slice_get c.held.inside.plan c.args.stripe ≡ Some mode.Exclusive = c.mode.ensures ∙ ap (λ (z : LockMode). Some z) c.in-Exclusive.is in
    let p = out_there g.P.Parted.object g.P.Parted.bare s h c.args.stripe c.requires.stripe at held in
    (p.0, p.1)

pub invariant_of-seat : goal.invariant_of-seat
invariant_of-seat g c =
    let s : SeatView g.row.P-Part.Denot g.row.P-Entry.Denot g.row.K.Denot =
    record { table = c.seat.inside.seat.table_id; id = c.seat.inside.seat.id; me = c.seat.inside.seat.me; room = c.seat.inside.room.items } in
    let h : HeldView g.row.P-Part.Denot = record { modes = c.held.inside.plan; parts = c.held.inside.parts.items; wide = c.held.inside.wide } in
    let held : IsHeldBy g.P.Parted.bare s h = subst (λ (z : SeatView g.row.P-Part.Denot g.row.P-Entry.Denot g.row.K.Denot). IsHeldBy g.P.Parted.bare z h) (sym c.seat.view_is)
    (subst (λ (z : HeldView g.row.P-Part.Denot). IsHeldBy g.P.Parted.bare c.args.seat.now z) (sym c.held.view_is) c.requires.held) in
    let t : SeatView g.row.P-Part.Denot g.row.P-Entry.Denot g.row.K.Denot =
    record { table = c.look_shared.new.seat.table_id; id = c.look_shared.new.seat.id; me = c.look_shared.new.seat.me; room = c.seat.inside.room.items } in
    let at : slice_get c.held.inside.plan c.args.stripe ≡ Some mode.Shared = c.mode.ensures ∙ ap (λ (z : LockMode). Some z) c.in-Shared.is in
    between_all g.P.Parted.object g.P.Parted.bare t h (looked_held g.P.Parted.object g.P.Parted.bare s t h c.args.stripe _ c.requires.stripe at c.seat.invariant.stands.wide held c.look_shared.ensures.looked.2) c.look_shared.ensures.looked.2.stands

pub returns-in-Exclusive-clause-looked : goal.returns-in-Exclusive-clause-looked
returns-in-Exclusive-clause-looked g c =
    let s : SeatView g.row.P-Part.Denot g.row.P-Entry.Denot g.row.K.Denot =
    record { table = c.seat.inside.seat.table_id; id = c.seat.inside.seat.id; me = c.seat.inside.seat.me; room = c.seat.inside.room.items } in
    let h : HeldView g.row.P-Part.Denot = record { modes = c.held.inside.plan; parts = c.held.inside.parts.items; wide = c.held.inside.wide } in
    let held : IsHeldBy g.P.Parted.bare s h = subst (λ (z : SeatView g.row.P-Part.Denot g.row.P-Entry.Denot g.row.K.Denot). IsHeldBy g.P.Parted.bare z h) (sym c.seat.view_is)
    (subst (λ (z : HeldView g.row.P-Part.Denot). IsHeldBy g.P.Parted.bare c.args.seat.now z) (sym c.held.view_is) c.requires.held) in
    let at : slice_get c.held.inside.plan c.args.stripe ≡ Some mode.Exclusive = c.mode.ensures ∙ ap (λ (z : LockMode). Some z) c.in-Exclusive.is in
    let e = c.look_exclusive.ensures in
    (e.0, e.2, ap (λ (z : SeatView g.row.P-Part.Denot g.row.P-Entry.Denot g.row.K.Denot). note_of (hold_at z.me.0.at.holds c.args.stripe)) (sym c.seat.view_is) ∙ out_noted g.P.Parted.object g.P.Parted.bare s h c.args.stripe e.0 c.requires.stripe at held e.1)

pub returns-in-Shared-clause-held : goal.returns-in-Shared-clause-held
returns-in-Shared-clause-held g c =
    let s : SeatView g.row.P-Part.Denot g.row.P-Entry.Denot g.row.K.Denot =
    record { table = c.seat.inside.seat.table_id; id = c.seat.inside.seat.id; me = c.seat.inside.seat.me; room = c.seat.inside.room.items } in
    let h : HeldView g.row.P-Part.Denot = record { modes = c.held.inside.plan; parts = c.held.inside.parts.items; wide = c.held.inside.wide } in
    let held : IsHeldBy g.P.Parted.bare s h = subst (λ (z : SeatView g.row.P-Part.Denot g.row.P-Entry.Denot g.row.K.Denot). IsHeldBy g.P.Parted.bare z h) (sym c.seat.view_is)
    (subst (λ (z : HeldView g.row.P-Part.Denot). IsHeldBy g.P.Parted.bare c.args.seat.now z) (sym c.held.view_is) c.requires.held) in
    let t : SeatView g.row.P-Part.Denot g.row.P-Entry.Denot g.row.K.Denot =
    record { table = c.look_shared.new.seat.table_id; id = c.look_shared.new.seat.id; me = c.look_shared.new.seat.me; room = c.seat.inside.room.items } in
    let at : slice_get c.held.inside.plan c.args.stripe ≡ Some mode.Shared = c.mode.ensures ∙ ap (λ (z : LockMode). Some z) c.in-Shared.is in
    subst (λ (z : HeldView g.row.P-Part.Denot). IsHeldBy g.P.Parted.bare t z) c.held.view_is (looked_held g.P.Parted.object g.P.Parted.bare s t h c.args.stripe _ c.requires.stripe at c.seat.invariant.stands.wide held c.look_shared.ensures.looked.2)

pub returns-in-Shared-clause-looked : goal.returns-in-Shared-clause-looked
returns-in-Shared-clause-looked g c =
    let s : SeatView g.row.P-Part.Denot g.row.P-Entry.Denot g.row.K.Denot =
    record { table = c.seat.inside.seat.table_id; id = c.seat.inside.seat.id; me = c.seat.inside.seat.me; room = c.seat.inside.room.items } in
    let h : HeldView g.row.P-Part.Denot = record { modes = c.held.inside.plan; parts = c.held.inside.parts.items; wide = c.held.inside.wide } in
    let held : IsHeldBy g.P.Parted.bare s h = subst (λ (z : SeatView g.row.P-Part.Denot g.row.P-Entry.Denot g.row.K.Denot). IsHeldBy g.P.Parted.bare z h) (sym c.seat.view_is)
    (subst (λ (z : HeldView g.row.P-Part.Denot). IsHeldBy g.P.Parted.bare c.args.seat.now z) (sym c.held.view_is) c.requires.held) in
    let t : SeatView g.row.P-Part.Denot g.row.P-Entry.Denot g.row.K.Denot =
    record { table = c.look_shared.new.seat.table_id; id = c.look_shared.new.seat.id; me = c.look_shared.new.seat.me; room = c.seat.inside.room.items } in
    let at : slice_get c.held.inside.plan c.args.stripe ≡ Some mode.Shared = c.mode.ensures ∙ ap (λ (z : LockMode). Some z) c.in-Shared.is in
    let e = c.look_shared.ensures.looked in
    (e.0, e.1, looked_note g.P.Parted.object g.P.Parted.bare s t h c.args.stripe _ c.requires.stripe at c.seat.invariant.stands.wide held c.look_shared.ensures.looked.2)

pub returns-in-Shared-clause-again : goal.returns-in-Shared-clause-again
returns-in-Shared-clause-again g c =
    let s : SeatView g.row.P-Part.Denot g.row.P-Entry.Denot g.row.K.Denot =
    record { table = c.seat.inside.seat.table_id; id = c.seat.inside.seat.id; me = c.seat.inside.seat.me; room = c.seat.inside.room.items } in
    let h : HeldView g.row.P-Part.Denot = record { modes = c.held.inside.plan; parts = c.held.inside.parts.items; wide = c.held.inside.wide } in
    let held : IsHeldBy g.P.Parted.bare s h = subst (λ (z : SeatView g.row.P-Part.Denot g.row.P-Entry.Denot g.row.K.Denot). IsHeldBy g.P.Parted.bare z h) (sym c.seat.view_is)
    (subst (λ (z : HeldView g.row.P-Part.Denot). IsHeldBy g.P.Parted.bare c.args.seat.now z) (sym c.held.view_is) c.requires.held) in
    let t : SeatView g.row.P-Part.Denot g.row.P-Entry.Denot g.row.K.Denot =
    record { table = c.look_shared.new.seat.table_id; id = c.look_shared.new.seat.id; me = c.look_shared.new.seat.me; room = c.seat.inside.room.items } in
    let at : slice_get c.held.inside.plan c.args.stripe ≡ Some mode.Shared = c.mode.ensures ∙ ap (λ (z : LockMode). Some z) c.in-Shared.is in
    λ x note. looked_again g.P.Parted.object g.P.Parted.bare s t h c.args.stripe _ c.requires.stripe at c.seat.invariant.stands.wide held c.look_shared.ensures.looked.2 x (ap (λ (z : SeatView g.row.P-Part.Denot g.row.P-Entry.Denot g.row.K.Denot). note_of (hold_at z.me.0.at.holds c.args.stripe)) c.seat.view_is ∙ note)

pub returns-in-Shared-clause-others : goal.returns-in-Shared-clause-others
returns-in-Shared-clause-others g c =
    let s : SeatView g.row.P-Part.Denot g.row.P-Entry.Denot g.row.K.Denot =
    record { table = c.seat.inside.seat.table_id; id = c.seat.inside.seat.id; me = c.seat.inside.seat.me; room = c.seat.inside.room.items } in
    let h : HeldView g.row.P-Part.Denot = record { modes = c.held.inside.plan; parts = c.held.inside.parts.items; wide = c.held.inside.wide } in
    let held : IsHeldBy g.P.Parted.bare s h = subst (λ (z : SeatView g.row.P-Part.Denot g.row.P-Entry.Denot g.row.K.Denot). IsHeldBy g.P.Parted.bare z h) (sym c.seat.view_is)
    (subst (λ (z : HeldView g.row.P-Part.Denot). IsHeldBy g.P.Parted.bare c.args.seat.now z) (sym c.held.view_is) c.requires.held) in
    let t : SeatView g.row.P-Part.Denot g.row.P-Entry.Denot g.row.K.Denot =
    record { table = c.look_shared.new.seat.table_id; id = c.look_shared.new.seat.id; me = c.look_shared.new.seat.me; room = c.seat.inside.room.items } in
    let at : slice_get c.held.inside.plan c.args.stripe ≡ Some mode.Shared = c.mode.ensures ∙ ap (λ (z : LockMode). Some z) c.in-Shared.is in
    λ k ne. looked_others g.P.Parted.object g.P.Parted.bare s t h c.args.stripe _ c.requires.stripe at c.seat.invariant.stands.wide held c.look_shared.ensures.looked.2 k ne ∙ ap (λ (z : SeatView g.row.P-Part.Denot g.row.P-Entry.Denot g.row.K.Denot). hold_at z.me.0.at.holds k) c.seat.view_is
