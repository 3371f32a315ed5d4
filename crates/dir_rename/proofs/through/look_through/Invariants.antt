use Rattle.namespace_model.specs.Trees.{Path}
use Rattle.path_order.specs.Subtrees.{IsTop}
use Rattle.path_walk.specs.Calls.{GoesOn}
use Rattle.dir_rename.proofs.ThroughLemmas.{IsPassing}
use Rattle.dir_rename.proofs.through.look_through.Given as goal

abbrev pub invariant-loop-count : goal.invariant-loop-count
invariant-loop-count g l = record {
  on : GoesOn (g.V.View.held l.fn.view) (g.V.View.held l.view) (g.V.View.over l.fn.view) (g.V.View.over l.view) (g.V.View.shown l.fn.view) (g.V.View.shown l.view);
  passing : (p : Path) → IsTop (g.V.View.shown l.fn.view) p l.fn.top → IsPassing (g.V.View.held l.view) (g.V.View.shown l.view) p l.room l.cursor l.ids.items l.too_long;
}
