use Rattle.namespace_model.specs.Trees.{Path}
use Rattle.path_walk.specs.Calls.{GoesOn}
use Rattle.path_order.specs.Cursors.{IsWalk, IsCursor}
use Rattle.path_listing.proofs.BelowLemmas.{AreRows}
use Rattle.path_listing.proofs.below.read_from.Given as goal

abbrev pub invariant-loop-count : goal.invariant-loop-count
invariant-loop-count g l = record {
  on : GoesOn (g.V.View.held l.fn.view) (g.V.View.held l.view) (g.V.View.over l.fn.view) (g.V.View.over l.view) (g.V.View.shown l.fn.view) (g.V.View.shown l.view);
  walk : IsWalk (g.V.View.shown l.view) l.cursor;
  rows : (dir token : Path) → IsCursor (g.V.View.shown l.fn.view) dir token l.fn.start.cursor → AreRows (g.V.View.held l.view) (g.V.View.shown l.view) dir token l._count l.cursor l.rows.items;
}
