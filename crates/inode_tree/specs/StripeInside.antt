-- The fields of a stripe as contracts see them, and what is true of them.
use Rattle.std.specs.Prelude.{◌+◌, ◌<◌, ◌≤◌, IsTrue, vec_len, vec_capacity}
use Rattle.std.specs.Ordering.{nat_cmp}
use Rattle.std.specs.FinMap as fin
use Rattle.std.specs.FinMap.{is_sorted}
use Rattle.inode_tree.specs.Stripes.{StripeRecord}
use Rattle.inode_tree.specs.declared.stripe.Stripe.TheInside.{Inside}

abbrev pub record_of : Inside → StripeRecord
record_of a = record { stripe = a.stripe; part = fin.from_entries a.nodes.items; ready = fin.from_entries a.ready.items }

-- the ids ascend, and there is room for all that is ready
pub record IsInside (a : Inside) : Type 0 where
  pub stripe : a.stripe < 64
  pub ascends : IsTrue (is_sorted nat_cmp a.nodes.items)
  pub room : vec_len a.nodes + vec_len a.ready ≤ vec_capacity a.nodes
