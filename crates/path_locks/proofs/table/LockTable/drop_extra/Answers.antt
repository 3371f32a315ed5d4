use Rattle.std.proofs.Common.{ap, sym, ◌∙◌, subst}
use Rattle.path_locks.specs.Views.{SeatView, HeldView, has_journal, IsHeldBy}
use Rattle.path_locks.proofs.Whole.{below_held, held_below}
use Rattle.path_locks.proofs.Betweens.{between_held}
use Rattle.path_locks.proofs.table.LockTable.drop_extra.Goals as goal

pub narrow_all-requires-clause-holds : goal.narrow_all-requires-clause-holds
narrow_all-requires-clause-holds g c =
    let s : SeatView g.row.P-Part.Denot g.row.P-Entry.Denot g.row.K.Denot =
    record { table = c.seat.inside.seat.table_id; id = c.seat.inside.seat.id; me = c.seat.inside.seat.me; room = c.seat.inside.room.items } in
    let h : HeldView g.row.P-Part.Denot = record { modes = c.held.inside.plan; parts = c.held.inside.parts.items; wide = c.held.inside.wide } in
    let held : IsHeldBy g.P.Parted.bare s h = subst (λ (z : SeatView g.row.P-Part.Denot g.row.P-Entry.Denot g.row.K.Denot). IsHeldBy g.P.Parted.bare z h) (sym c.seat.view_is)
    (subst (λ (z : HeldView g.row.P-Part.Denot). IsHeldBy g.P.Parted.bare c.args.seat.now z) (sym c.held.view_is) c.requires.held) in
    below_held g.P.Parted.object g.P.Parted.bare s h held (ap (λ (z : SeatView g.row.P-Part.Denot g.row.P-Entry.Denot g.row.K.Denot). has_journal z) c.seat.view_is ∙ c.requires.journal) c.seat.invariant.stands

pub narrow_all-requires-clause-held : goal.narrow_all-requires-clause-held
narrow_all-requires-clause-held g c =
    let s : SeatView g.row.P-Part.Denot g.row.P-Entry.Denot g.row.K.Denot =
    record { table = c.seat.inside.seat.table_id; id = c.seat.inside.seat.id; me = c.seat.inside.seat.me; room = c.seat.inside.room.items } in
    let h : HeldView g.row.P-Part.Denot = record { modes = c.held.inside.plan; parts = c.held.inside.parts.items; wide = c.held.inside.wide } in
    let held : IsHeldBy g.P.Parted.bare s h = subst (λ (z : SeatView g.row.P-Part.Denot g.row.P-Entry.Denot g.row.K.Denot). IsHeldBy g.P.Parted.bare z h) (sym c.seat.view_is)
    (subst (λ (z : HeldView g.row.P-Part.Denot). IsHeldBy g.P.Parted.bare c.args.seat.now z) (sym c.held.view_is) c.requires.held) in
    held.modes

pub invariant_of-seat : goal.invariant_of-seat
invariant_of-seat g c =
    between_held g.P.Parted.object g.P.Parted.bare _ _ c.narrow_all.ensures.holds

pub returns-clause-held : goal.returns-clause-held
returns-clause-held g c =
    held_below g.P.Parted.object g.P.Parted.bare
    (record { table = c.narrow_all.new.seat.table_id; id = c.narrow_all.new.seat.id; me = c.narrow_all.new.seat.me; room = c.seat.inside.room.items })
    (record { modes = c.args.keep.now; parts = c.narrow_all.new.parts.items; wide = c.held.inside.wide }) c.narrow_all.ensures.holds c.narrow_all.ensures.held
