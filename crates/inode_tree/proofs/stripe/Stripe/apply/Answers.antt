use Rattle.std.proofs.Common.{refl}
use Rattle.inode_tree.specs.StripeInside.{record_of}
use Rattle.inode_tree.proofs.StripeLemmas.{all_put_in}
use Rattle.inode_tree.proofs.stripe.Stripe.apply.Goals as goal

pub returns-clause-part : goal.returns-clause-part
returns-clause-part c =
    all_put_in (record_of c.self.inside) c.args.self.now c.args.number c.args.changes.now c.self.inside.ready.items c.self.inside.nodes.items c.put_all.new.nodes.items
    c.self.view_is refl refl c.requires c.put_all.ensures.nodes
