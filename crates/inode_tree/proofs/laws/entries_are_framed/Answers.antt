use Rattle.inode_tree.proofs.FrameLemmas.{framed}
use Rattle.inode_tree.proofs.laws.entries_are_framed.Goals as goal

pub returns : goal.returns
returns c = framed
