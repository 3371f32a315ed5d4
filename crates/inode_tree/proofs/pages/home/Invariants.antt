use Rattle.std.proofs.Common.{◌≡◌, ◌≤◌, ◌-◌, true, false, length}
use Rattle.std.specs.List.{AllWithin}
use Rattle.inode_tree.specs.Pages.{begins_by}
use Rattle.inode_tree.proofs.pages.home.Given as goal

abbrev pub invariant-loop-low : goal.invariant-loop-low
invariant-loop-low l = record {
  ordered : l.low ≤ l.high;
  within : l.high ≤ length l.pages;
  yes : AllWithin (λ page. begins_by l.name page ≡ true) l.pages 0 l.low;
  no : AllWithin (λ page. begins_by l.name page ≡ false) l.pages l.high (length l.pages);
}

abbrev pub decreases-loop-low : goal.decreases-loop-low
decreases-loop-low l = l.high - l.low
