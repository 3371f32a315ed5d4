use Rattle.std.proofs.Common.{◌≡◌, ◌∷◌, take}
use Rattle.inode_tree.specs.Promises.{numbers_of}
use Rattle.path_order.specs.PagesBelow.{ids_in}
use Rattle.path_order.proofs.whole.Subtree.ids.Given as goal

abbrev pub invariant-loop-seen : goal.invariant-loop-seen
invariant-loop-seen l = record {
  ids : numbers_of l.ids.items ≡ ids_in (l.self.top ∷ take l.seen-index l.self.below.items);
}
