use Rattle.path_walk.specs.Calls.{GoesOn}
use Rattle.path_order.specs.Listings.{items_of}
use Rattle.acl_recursive.proofs.RunLemmas.{IsRunning}
use Rattle.acl_recursive.proofs.run.take_turns.Given as goal

abbrev pub invariant-loop-count : goal.invariant-loop-count
invariant-loop-count g l = record {
  on : GoesOn (g.V.View.held l.fn.view) (g.V.View.held l.view) (g.V.View.over l.fn.view) (g.V.View.over l.view) (g.V.View.shown l.fn.view) (g.V.View.shown l.view);
  running : IsRunning (g.V.View.held l.view) (g.V.View.shown l.view) l.fn.call l.fn.asked l._count l.walk l.tally (items_of l.last);
}
