use Rattle.namespace_model.specs.Trees.{Path}
use Rattle.path_walk.specs.Calls.{GoesOn}
use Rattle.path_order.specs.Cursors.{IsWalk, IsCursor}
use Rattle.path_order.proofs.PageLemmas.{IsPaging}
use Rattle.path_order.proofs.paging.next_page.Given as goal

abbrev pub invariant-loop-count : goal.invariant-loop-count
invariant-loop-count g l = record {
  on : GoesOn (g.V.View.held l.fn.view) (g.V.View.held l.view) (g.V.View.over l.fn.view) (g.V.View.over l.view) (g.V.View.shown l.fn.view) (g.V.View.shown l.view);
  walk : IsWalk (g.V.View.shown l.view) l.cursor;
  paging : (root token : Path) → IsCursor (g.V.View.shown l.fn.view) root token l.fn.cursor → IsPaging (g.V.View.held l.view) (g.V.View.shown l.view) root token l._count l.cursor l.seen.items;
}
