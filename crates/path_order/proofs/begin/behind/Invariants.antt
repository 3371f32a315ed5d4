use Rattle.std.proofs.Common.{take}
use Rattle.namespace_model.specs.Trees.{Path}
use Rattle.path_walk.specs.Calls.{GoesOn}
use Rattle.path_order.specs.Starts.{IsAtFor}
use Rattle.path_order.proofs.WayLemmas.{IsGoing}
use Rattle.path_order.proofs.begin.behind.Given as goal

abbrev pub invariant-loop-name : goal.invariant-loop-name
invariant-loop-name g l = record {
  on : GoesOn (g.V.View.held l.fn.view) (g.V.View.held l.view) (g.V.View.over l.fn.view) (g.V.View.over l.view) (g.V.View.shown l.fn.view) (g.V.View.shown l.view);
  going : (p : Path) → IsAtFor (g.V.View.shown l.fn.view) p l.fn.root → IsGoing (g.V.View.held l.view) (g.V.View.shown l.view) p (take l.name-index l.names) l.levels.items l.node l.seen.items;
}
