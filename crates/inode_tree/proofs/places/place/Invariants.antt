use Rattle.std.proofs.Common.{◌≡◌, ◌≤◌, ◌-◌, length}
use Rattle.std.specs.declared.cmp.Ordering.TheVariants.{Less, Greater}
use Rattle.std.specs.List.{AllWithin}
use Rattle.inode_tree.proofs.places.place.Given as goal

abbrev pub invariant-loop-low : goal.invariant-loop-low
invariant-loop-low g l = record {
  ordered : l.low ≤ l.high;
  within : l.high ≤ length l.entries;
  less : AllWithin (λ entry. g.K.Ord.cmp entry.0 l.key ≡ Less) l.entries 0 l.low;
  greater : AllWithin (λ entry. g.K.Ord.cmp entry.0 l.key ≡ Greater) l.entries l.high (length l.entries);
}

abbrev pub decreases-loop-low : goal.decreases-loop-low
decreases-loop-low g l = l.high - l.low
