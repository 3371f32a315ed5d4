use Rattle.std.proofs.Common.{◌∙◌}
use Rattle.striped_store.proofs.Using.{used_none}
use Rattle.striped_store.proofs.Passing.{new_passes}
use Rattle.striped_store.proofs.store.Store.start.Goals as goal

pub make_passes-requires-clause-used : goal.make_passes-requires-clause-used
make_passes-requires-clause-used g c = used_none g.P.Parted.object g.P.Entry.Bodied.uses c.in_ok-table.table.opening (c.in_ok-table.ensures.opening ∙ c.new-journal.ensures.entries)

pub returns-clause-new : goal.returns-clause-new
returns-clause-new g c = new_passes g.P.Parted.object c.in_ok-table.table c.in_ok-passes.passes.items (c.in_ok-table.ensures.opening ∙ c.new-journal.ensures.entries) c.in_ok-passes.ensures.new
