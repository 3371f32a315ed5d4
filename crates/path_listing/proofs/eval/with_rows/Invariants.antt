use Rattle.std.proofs.Common.{◌≡◌, ◌++◌, take}
use Rattle.inode_tree.specs.Promises.{numbers_of}
use Rattle.path_order.specs.PagesBelow.{ids_in}
use Rattle.path_listing.specs.Listed.{nodes_in}
use Rattle.path_listing.proofs.eval.with_rows.Given as goal

abbrev pub invariant-loop-row : goal.invariant-loop-row
invariant-loop-row l = numbers_of l.ids.items ≡ numbers_of l.fn.reads.items ++ ids_in (nodes_in (take l.row-index l.rows))
