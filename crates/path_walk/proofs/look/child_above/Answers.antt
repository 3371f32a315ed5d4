use Rattle.std.proofs.Common.{option_map}
use Rattle.inode_tree.proofs.FirstLinks.{first_child, no_child_above, no_child_of_file}
use Rattle.path_walk.proofs.look.child_above.Goals as goal

pub returns-in-Some : goal.returns-in-Some
returns-in-Some c =
    first_child c.args.node.now c.inode.result.now c.in-Directory.children _ (option_map (λ n. n.now) c.args.name) c.in-Some.name.now c.in-Some.id.0 c.inode.ensures c.in-Directory.is c.above.ensures.ascends c.in-Some.ensures.child

pub returns-in-None : goal.returns-in-None
returns-in-None c = no_child_above c.args.node.now c.inode.result.now c.in-Directory.children _ (option_map (λ n. n.now) c.args.name) c.inode.ensures c.in-Directory.is c.in-None.ensures.child

pub returns-in-File : goal.returns-in-File
returns-in-File c = no_child_of_file c.args.node.now c.inode.result.now c.in-File.field-0 _ (option_map (λ n. n.now) c.args.name) c.inode.ensures c.in-File.is
