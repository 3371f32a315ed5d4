use Rattle.path_walk.specs.Calls.{GoesOn}
use Rattle.op_delete.proofs.ClearLemmas.{IsClearing}
use Rattle.op_delete.proofs.clear.look_through.Given as goal

abbrev pub invariant-loop-count : goal.invariant-loop-count
invariant-loop-count g l = record {
  on : GoesOn (g.V.View.held l.fn.view) (g.V.View.held l.view) (g.V.View.over l.fn.view) (g.V.View.over l.view) (g.V.View.shown l.fn.view) (g.V.View.shown l.view);
  clearing : IsClearing (g.V.View.held l.view) (g.V.View.shown l.view) l.caller l.path l.cursor l.taken.items l.refused;
}
