use Rattle.std.proofs.Common.{ap, sym, subst, Vec, Global}
use Rattle.std.specs.Prelude.{Option}
use Rattle.path_locks.specs.Views.{SeatView, HoldsNothing}
use Rattle.path_locks.proofs.Whole.{below_none, held_below}
use Rattle.path_locks.proofs.table.LockTable.acquire.Goals as goal

pub take_all-requires-clause-none : goal.take_all-requires-clause-none
take_all-requires-clause-none g c =
    let s : SeatView g.row.P-Part.Denot g.row.P-Entry.Denot g.row.K.Denot =
    record { table = c.seat.inside.seat.table_id; id = c.seat.inside.seat.id; me = c.seat.inside.seat.me; room = c.seat.inside.room.items } in
    let nothing : HoldsNothing s = subst (λ (z : SeatView g.row.P-Part.Denot g.row.P-Entry.Denot g.row.K.Denot). HoldsNothing z) (sym c.seat.view_is) c.requires.nothing in
    below_none g.P.Parted.object g.P.Parted.bare s _ nothing c.seat.invariant.stands (ap (λ (v : Vec (Option g.row.P-Part.Denot) Global). v.items) c.replace-parts.ensures.value)

pub returns-clause-held : goal.returns-clause-held
returns-clause-held g c =
    held_below g.P.Parted.object g.P.Parted.bare
    (record { table = c.take_all.new.seat.table_id; id = c.take_all.new.seat.id; me = c.take_all.new.seat.me; room = c.replace-parts.new.dest.items })
    (record { modes = c.args.plan.now; parts = c.take_all.new.parts.items; wide = c.wide.result }) c.take_all.ensures.holds c.take_all.ensures.held
