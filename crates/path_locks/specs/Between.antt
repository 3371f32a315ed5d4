-- A seat between two calls.
use Rattle.std.specs.Prelude.{◌≡◌}
use Rattle.std.specs.Prelude as std
use Rattle.lock_core.specs.Object.{Object}
use Rattle.atomic_table.specs.Table.{Me}
use Rattle.path_locks.specs.declared.rule.Slot.{Slot}
use Rattle.path_locks.specs.declared.rule.View.{View}
use Rattle.path_locks.specs.Stands.{Stands}
use Rattle.path_locks.specs.Holding.{empties}
use Rattle.path_locks.specs.Views.{with_book}

-- it stands in a journal and has no latch, and its slots in hand are those of the stripes that it holds exclusively, and before
-- them the journal's while it has the journal
pub record IsBetween {T E R K : Type 0} (o : Object T E R) (me : Me (Slot T E K) (View T E)) : Type 0 where
  pub stands : Stands o me.0.at
  pub no_latch : me.0.at.latch ≡ std.None
  pub slots : me.1 ≡ with_book me.0.at.journal (empties 64 me.0.at.holds)
