use Rattle.inode_tree.proofs.StripeLemmas.{sealed_is_ready}
use Rattle.inode_tree.proofs.stripe.Stripe.reserve.Goals as goal

pub returns-clause-ready : goal.returns-clause-ready
returns-clause-ready c =
    let drafts = rw c.as_slice.ensures.value at c.in_ok-drafts.ensures in
    rw c.in_ok-reserve.ensures.items (sealed_is_ready c.self.inside.stripe c.args.changes.now c.in_ok-drafts.drafts.items c.in_ok-ready.ready.items c.self.inside.nodes.items c.in_ok-ready.ensures drafts)
