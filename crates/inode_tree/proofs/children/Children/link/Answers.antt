use Rattle.std.proofs.Common.{ap}
use Rattle.inode_tree.specs.ChildLists.{ChildRecord}
use Rattle.inode_tree.proofs.PageEdits.{pages_where_linked, links_where_linked}
use Rattle.inode_tree.proofs.children.Children.link.Goals as goal

pub invariant_of-self : goal.invariant_of-self
invariant_of-self c = pages_where_linked c.args.name c.args.id.0 c.self.inside.pages.items c.link.new.pages.items c.self.invariant c.link.result c.link.ensures.pages c.link.ensures.items_stay

pub returns-clause-links : goal.returns-clause-links
returns-clause-links c =
    links_where_linked c.args.name c.args.id.0 c.self.inside.pages.items c.link.new.pages.items c.self.invariant c.link.result c.args.self.now.links
    (ap (λ (r : ChildRecord). r.links) c.self.view_is) c.link.ensures.pages
