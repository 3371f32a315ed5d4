use Rattle.std.proofs.Common.{◌≡◌}
use Rattle.std.specs.FinMap.{put}
use Rattle.inode_tree.specs.ChildLists.{name_cmp}
use Rattle.inode_tree.proofs.MapLemmas.{linked_is}
use Rattle.inode_tree.proofs.edits.linked.Goals as goal

pub returns-in_ok-link-in-Directory : goal.returns-in_ok-link-in-Directory
returns-in_ok-link-in-Directory c =
    let links : c.link.new.self.links ≡ put name_cmp c.args.name.now c.args.child.0 c.in-Directory.children.links =
    cc (c.in_ok-link-in-Directory.ensures.links, c.in_ok-copy-in-Directory.ensures) in
    rw c.in-Directory.is (linked_is c.args.name.now c.args.child.0 _ _ links)
