use Rattle.std.proofs.Common.{List, sym, subst}
use Rattle.striped_store.specs.UsedIds.{AreUsed}
use Rattle.striped_store.proofs.store.Store.start_from.Goals as goal

pub make_passes-requires-clause-used : goal.make_passes-requires-clause-used
make_passes-requires-clause-used g c =
    subst (λ (z : List g.row.P-Entry.Denot). AreUsed g.P.Parted.object g.P.Entry.Bodied.uses z c.used_ids-used.result) (sym c.in_ok-table.ensures.opening) c.used_ids-used.ensures
