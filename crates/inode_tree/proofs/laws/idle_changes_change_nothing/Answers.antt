use Rattle.inode_tree.proofs.IdleLemmas.{idle_changes_nothing}
use Rattle.inode_tree.proofs.laws.idle_changes_change_nothing.Goals as goal

pub returns : goal.returns
returns c = idle_changes_nothing
