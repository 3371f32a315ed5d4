use Rattle.std.proofs.Common.{◌≡◌, ◌++◌, take}
use Rattle.inode_tree.specs.Promises.{numbers_of}
use Rattle.path_order.specs.PagesBelow.{ids_in}
use Rattle.path_order.proofs.ids.with_ids.Given as goal

abbrev pub invariant-loop-seen : goal.invariant-loop-seen
invariant-loop-seen l = numbers_of l.all.items ≡ numbers_of l.fn.ids.items ++ ids_in (take l.seen-index l.nodes)
