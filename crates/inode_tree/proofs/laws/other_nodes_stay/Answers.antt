use Rattle.inode_tree.proofs.IdleLemmas.{others_stay, stripes_are_apart}
use Rattle.inode_tree.proofs.laws.other_nodes_stay.Goals as goal

pub returns-clause-others : goal.returns-clause-others
returns-clause-others c = others_stay

pub returns-clause-stripes : goal.returns-clause-stripes
returns-clause-stripes c = stripes_are_apart
