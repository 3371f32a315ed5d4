use Rattle.std.proofs.Common.{option_map}
use Rattle.path_walk.specs.Calls.{GoesOn}
use Rattle.op_filesystem.proofs.ListedLemmas.{IsListing}
use Rattle.op_filesystem.proofs.page.list.Given as goal

abbrev pub invariant-loop-count : goal.invariant-loop-count
invariant-loop-count g l = record {
  on : GoesOn (g.V.View.held l.fn.view) (g.V.View.held l.view) (g.V.View.over l.fn.view) (g.V.View.over l.view) (g.V.View.shown l.fn.view) (g.V.View.shown l.view);
  listing : IsListing (g.V.View.held l.view) (g.V.View.shown l.view) l.prefix (option_map (λ n. n.now) l.from) (option_map (λ n. n.now) l.last) l._count l.reads.items l.entries.items;
}
