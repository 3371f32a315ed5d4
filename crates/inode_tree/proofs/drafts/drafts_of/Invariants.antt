use Rattle.std.proofs.Common.{IsTrue, take}
use Rattle.std.specs.Ordering.{nat_cmp}
use Rattle.std.specs.FinMap.{is_sorted}
use Rattle.inode_tree.specs.Drafts.{AreDrafts}
use Rattle.inode_tree.proofs.drafts.drafts_of.Given as goal

abbrev pub invariant-loop-change : goal.invariant-loop-change
invariant-loop-change l = record {
  sorted : IsTrue (is_sorted nat_cmp l.drafts.items);
  drafts : AreDrafts l.stripe l.nodes (take l.change-index l.changes) l.drafts.items;
}
