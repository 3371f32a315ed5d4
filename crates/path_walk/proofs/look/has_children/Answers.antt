use Rattle.path_walk.proofs.ChildLemmas.{directory_has, file_has_none}
use Rattle.path_walk.proofs.look.has_children.Goals as goal

pub returns-in-Directory : goal.returns-in-Directory
returns-in-Directory c =
    directory_has c.args.node.now c.inode.result.now c.in-Directory.children c.args.node.now.meta.number c.is_empty.result c.inode.ensures c.in-Directory.is c.is_empty.ensures.none

pub returns-in-File : goal.returns-in-File
returns-in-File c = file_has_none c.args.node.now c.inode.result.now c.in-File.field-0 c.args.node.now.meta.number c.inode.ensures c.in-File.is
