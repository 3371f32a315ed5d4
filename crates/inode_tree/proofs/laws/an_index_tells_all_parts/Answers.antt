use Rattle.inode_tree.proofs.IndexLemmas.{stands_from_index, index_from_stands}
use Rattle.inode_tree.proofs.SameParts.{same_parts}
use Rattle.inode_tree.proofs.laws.an_index_tells_all_parts.Goals as goal

pub returns-clause-stands : goal.returns-clause-stands
returns-clause-stands c = stands_from_index

pub returns-clause-index : goal.returns-clause-index
returns-clause-index c = index_from_stands

pub returns-clause-same : goal.returns-clause-same
returns-clause-same c = same_parts
