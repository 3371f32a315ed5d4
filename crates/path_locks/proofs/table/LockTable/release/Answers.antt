use Rattle.std.proofs.Common.{ap, sym, ◌∙◌, subst, refl}
use Rattle.path_locks.specs.Views.{SeatView, HeldView, has_journal, IsHeldBy}
use Rattle.path_locks.proofs.Whole.{none_below, below_held}
use Rattle.path_locks.proofs.Betweens.{between_none}
use Rattle.path_locks.proofs.table.LockTable.release.Goals as goal

pub give_all-requires-clause-holds : goal.give_all-requires-clause-holds
give_all-requires-clause-holds g c =
    let s : SeatView g.row.P-Part.Denot g.row.P-Entry.Denot g.row.K.Denot =
    record { table = c.seat.inside.seat.table_id; id = c.seat.inside.seat.id; me = c.seat.inside.seat.me; room = c.seat.inside.room.items } in
    let h : HeldView g.row.P-Part.Denot = record { modes = c.held.inside.plan; parts = c.held.inside.parts.items; wide = c.held.inside.wide } in
    let held : IsHeldBy g.P.Parted.bare s h = subst (λ (z : SeatView g.row.P-Part.Denot g.row.P-Entry.Denot g.row.K.Denot). IsHeldBy g.P.Parted.bare z h) (sym c.seat.view_is)
    (subst (λ (z : HeldView g.row.P-Part.Denot). IsHeldBy g.P.Parted.bare c.args.seat.now z) (sym c.held.view_is) c.requires.held) in
    below_held g.P.Parted.object g.P.Parted.bare s h held (ap (λ (z : SeatView g.row.P-Part.Denot g.row.P-Entry.Denot g.row.K.Denot). has_journal z) c.seat.view_is ∙ c.requires.journal) c.seat.invariant.stands

pub give_all-requires-clause-held : goal.give_all-requires-clause-held
give_all-requires-clause-held g c =
    let s : SeatView g.row.P-Part.Denot g.row.P-Entry.Denot g.row.K.Denot =
    record { table = c.seat.inside.seat.table_id; id = c.seat.inside.seat.id; me = c.seat.inside.seat.me; room = c.seat.inside.room.items } in
    let h : HeldView g.row.P-Part.Denot = record { modes = c.held.inside.plan; parts = c.held.inside.parts.items; wide = c.held.inside.wide } in
    let held : IsHeldBy g.P.Parted.bare s h = subst (λ (z : SeatView g.row.P-Part.Denot g.row.P-Entry.Denot g.row.K.Denot). IsHeldBy g.P.Parted.bare z h) (sym c.seat.view_is)
    (subst (λ (z : HeldView g.row.P-Part.Denot). IsHeldBy g.P.Parted.bare c.args.seat.now z) (sym c.held.view_is) c.requires.held) in
    held.modes

pub returns-clause-nothing : goal.returns-clause-nothing
returns-clause-nothing g c =
    none_below g.P.Parted.object g.P.Parted.bare
    (record { table = c.give_all.new.seat.table_id; id = c.give_all.new.seat.id; me = c.give_all.new.seat.me; room = c.give_all.new.parts.items }) _ c.give_all.ensures.none refl

pub invariant_of-seat : goal.invariant_of-seat
invariant_of-seat g c = between_none g.P.Parted.object g.P.Parted.bare _ _ c.give_all.ensures.none
