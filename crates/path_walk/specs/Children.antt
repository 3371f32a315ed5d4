-- Whether a node that was looked at has children.
use Rattle.std.specs.Prelude.{◌==◌, Bool, not}
use Rattle.std.specs.FinMap as fin
use Rattle.inode_tree.specs.Inodes.{BareInode, links_in}

-- the node is a directory that isn't empty: a file has no children
abbrev pub has_children : BareInode → Bool
has_children x = not (fin.len (links_in x.content) == 0)
