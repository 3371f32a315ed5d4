use Rattle.std.proofs.Common.{◌∙◌}
use Rattle.inode_tree.proofs.NodeChildren.{child_in, no_child_in}
use Rattle.path_walk.proofs.look.child_of.Goals as goal

pub returns-in-Directory : goal.returns-in-Directory
returns-in-Directory c = c.get.ensures.id ∙ child_in c.args.node.now c.inode.result.now c.in-Directory.children c.args.node.now.meta.number c.args.name.now c.inode.ensures c.in-Directory.is

pub returns-in-File : goal.returns-in-File
returns-in-File c = no_child_in c.args.node.now c.inode.result.now c.in-File.field-0 c.args.node.now.meta.number c.args.name.now c.inode.ensures c.in-File.is
