use Rattle.std.proofs.Common.{◌≡◌, map}
use Rattle.inode_tree.specs.Drafts.{sealed_entry}
use Rattle.inode_tree.proofs.stripe.sealed.Given as goal

abbrev pub invariant-loop-id : goal.invariant-loop-id
invariant-loop-id l = l.ready.items ≡ map sealed_entry l.yielded
