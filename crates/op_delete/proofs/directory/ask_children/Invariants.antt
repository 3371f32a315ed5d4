use Rattle.std.proofs.Common.{option_map}
use Rattle.path_walk.specs.Calls.{GoesOn}
use Rattle.op_delete.proofs.ClearLemmas.{IsPassed}
use Rattle.op_delete.proofs.directory.ask_children.Given as goal

abbrev pub invariant-loop-count : goal.invariant-loop-count
invariant-loop-count g l = record {
  on : GoesOn (g.V.View.held l.fn.view) (g.V.View.held l.view) (g.V.View.over l.fn.view) (g.V.View.over l.view) (g.V.View.shown l.fn.view) (g.V.View.shown l.view);
  passed : IsPassed (g.V.View.shown l.view) l.caller l.at l.node (option_map (λ n. n.now) l.last);
}
