use Rattle.std.proofs.Common.{option_map}
use Rattle.namespace_model.specs.Trees.{Path}
use Rattle.path_walk.specs.Calls.{GoesOn}
use Rattle.path_order.specs.Starts.{IsAtFor}
use Rattle.path_listing.proofs.ChildLemmas.{AreChildren}
use Rattle.path_listing.proofs.children.read_behind.Given as goal

abbrev pub invariant-loop-count : goal.invariant-loop-count
invariant-loop-count g l = record {
  on : GoesOn (g.V.View.held l.fn.view) (g.V.View.held l.view) (g.V.View.over l.fn.view) (g.V.View.over l.view) (g.V.View.shown l.fn.view) (g.V.View.shown l.view);
  rows : (dir : Path) → IsAtFor (g.V.View.shown l.fn.view) dir l.node
      → AreChildren (g.V.View.held l.view) (g.V.View.shown l.view) dir (option_map (λ n. n.now) l.behind) l._count (option_map (λ n. n.now) l.last) l.rows.items;
}
