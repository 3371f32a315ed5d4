use Rattle.std.proofs.Common.{ap}
use Rattle.inode_tree.specs.ChildLists.{ChildRecord}
use Rattle.inode_tree.proofs.PageEdits.{pages_where_unlinked, links_where_unlinked}
use Rattle.inode_tree.proofs.children.Children.unlink.Goals as goal

pub invariant_of-self : goal.invariant_of-self
invariant_of-self c = pages_where_unlinked c.args.name.now c.self.inside.pages.items c.unlink.new.pages.items c.self.invariant c.unlink.result c.unlink.ensures.pages c.unlink.ensures.items_stay

pub returns-clause-links : goal.returns-clause-links
returns-clause-links c =
    links_where_unlinked c.args.name.now c.self.inside.pages.items c.unlink.new.pages.items c.self.invariant c.unlink.result c.args.self.now.links
    (ap (λ (r : ChildRecord). r.links) c.self.view_is) c.unlink.ensures.pages
