use Rattle.inode_tree.proofs.FrameLemmas.{others_stay}
use Rattle.inode_tree.proofs.laws.other_parts_stay.Goals as goal

pub returns : goal.returns
returns c = others_stay
