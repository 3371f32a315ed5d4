use Rattle.std.proofs.Common.{◌≡◌, ◌≤◌, ◌+◌, IsTrue, ℕ}
use Rattle.std.specs.Prelude.{vec_len, vec_capacity}
use Rattle.std.specs.Ordering.{nat_cmp}
use Rattle.std.specs.FinMap.{find, is_sorted}
use Rattle.inode_tree.specs.Stripes.{put_in}
use Rattle.inode_tree.proofs.stripe.put_all.Given as goal

abbrev pub invariant-loop-id : goal.invariant-loop-id
invariant-loop-id l = record {
  sorted : IsTrue (is_sorted nat_cmp l.nodes.items);
  room : vec_len l.nodes + vec_len l.ready ≤ vec_capacity l.nodes;
  same : (q : ℕ) → put_in l.number (find nat_cmp q l.ready.items) (find nat_cmp q l.nodes.items)
      ≡ put_in l.number (find nat_cmp q l.initial.ready.items) (find nat_cmp q l.initial.nodes.items);
}

abbrev pub decreases-loop-id : goal.decreases-loop-id
decreases-loop-id l = vec_len l.ready
