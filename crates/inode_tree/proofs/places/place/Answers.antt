use Rattle.std.proofs.Common.{ℕ, ◌+◌, ◌-◌, ◌/◌, T, ◌≡◌, get_or, sym, subst, arith}
use Rattle.std.specs.declared.cmp.Ordering.TheVariants.{Less, Greater}
use Rattle.std.specs.FinMap.{is_sorted}
use Rattle.inode_tree.proofs.Searches.{less_before, greater_behind}
use Rattle.inode_tree.proofs.places.place.Goals as goal

pub loop-low-preserved-in-Less : goal.loop-low-preserved-in-Less
loop-low-preserved-in-Less g c =
    let middle : ℕ = c.loop-low.low + (c.loop-low.high - c.loop-low.low) / 2 in
    let sorted : T (is_sorted g.K.Ord.cmp c.args.entries.now) = subst T (sym c.requires) tt in
    let at : g.K.Ord.cmp (get_or c.args.entries.now middle c.index-entries-middle.result).0 c.args.key.now ≡ Less =
    sym c.in-Less.ensures in
    record {
      ordered = omega arith;
      within = c.loop-low.invariant.within;
      less = λ k d low high. less_before g.K.Ord.cmp g.met.K.Ord.total c.args.key.now c.args.entries.now sorted middle k d c.index-entries-middle.result (omega arith) (omega arith) at;
      greater = c.loop-low.invariant.greater;
    }

pub loop-low-preserved : goal.loop-low-preserved
loop-low-preserved g c =
    let middle : ℕ = c.loop-low.low + (c.loop-low.high - c.loop-low.low) / 2 in
    let sorted : T (is_sorted g.K.Ord.cmp c.args.entries.now) = subst T (sym c.requires) tt in
    let at : g.K.Ord.cmp (get_or c.args.entries.now middle c.index-entries-middle.result).0 c.args.key.now ≡ Greater =
    sym c.in-Greater.ensures in
    record {
      ordered = omega arith;
      within = omega arith;
      less = c.loop-low.invariant.less;
      greater = λ k d low high. greater_behind g.K.Ord.cmp g.met.K.Ord.total c.args.key.now c.args.entries.now sorted middle k d c.index-entries-middle.result high low at;
    }
