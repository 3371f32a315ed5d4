use Rattle.namespace_model.specs.Trees.{parent}
use Rattle.path_walk.specs.Calls.{GoesOn}
use Rattle.path_walk.specs.Trails.{IsTrail}
use Rattle.path_walk.proofs.way.visit.Given as goal

abbrev pub invariant-loop-place : goal.invariant-loop-place
invariant-loop-place g l = record {
  on : GoesOn (g.V.View.held l.fn.view) (g.V.View.held l.view) (g.V.View.over l.fn.view) (g.V.View.over l.view) (g.V.View.shown l.fn.view) (g.V.View.shown l.view);
  trail : IsTrail (g.V.View.held l.view) (g.V.View.shown l.view) l.caller (parent l.path) l.place l.trail;
}
