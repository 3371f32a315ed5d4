use Rattle.inode_tree.proofs.PromiseLemmas.{needs_nothing_more}
use Rattle.inode_tree.proofs.laws.nothing_is_needed_where_all_is_held.Goals as goal

pub returns : goal.returns
returns c = needs_nothing_more
