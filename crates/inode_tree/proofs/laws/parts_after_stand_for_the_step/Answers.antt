use Rattle.inode_tree.proofs.AfterStands.{after_stands}
use Rattle.inode_tree.proofs.laws.parts_after_stand_for_the_step.Goals as goal

pub returns : goal.returns
returns c = after_stands
