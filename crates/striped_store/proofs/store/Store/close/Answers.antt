use Rattle.std.proofs.Common.{List, slice_get, ap, sym, ◌∙◌, subst}
use Rattle.path_locks.specs.Views.{SeatView, TableView, AreEverySeat}
use Rattle.striped_store.specs.Closed.{AreEveryPass}
use Rattle.striped_store.proofs.Passing.{every_seat, of_passes, by_passes}
use Rattle.striped_store.proofs.store.Store.close.Goals as goal

pub close-parts-requires : goal.close-parts-requires
close-parts-requires g c =
    let every = subst (λ (t : TableView g.row.P-Entry.Denot). AreEveryPass t c.args.passes.items) (sym c.self.view_is) c.requires in
    record {
      every = subst (λ (l : List (SeatView g.row.P-Part.Denot g.row.P-Entry.Denot g.row.K.Denot)). AreEverySeat c.self.inside.table l) (sym c.take_seats-seats.ensures)
          (every_seat c.self.inside.table c.args.passes.items every);
    }

pub returns-clause-passes : goal.returns-clause-passes
returns-clause-passes g c = of_passes g.P.Parted.object c.close-parts.result.1.entries c.args.passes.items
    (λ k s at. c.close-parts.ensures.saw k s (ap (λ (l : List (SeatView g.row.P-Part.Denot g.row.P-Entry.Denot g.row.K.Denot)). slice_get l k) c.take_seats-seats.ensures ∙ at))

pub returns-clause-entries : goal.returns-clause-entries
returns-clause-entries g c =
    let every = subst (λ (t : TableView g.row.P-Entry.Denot). AreEveryPass t c.args.passes.items) (sym c.self.view_is) c.requires in
    by_passes g.P.Parted.object c.close-parts.result.1.entries c.self.inside.table c.args.passes.items c.self.invariant.opened every c.close-parts.ensures.made
