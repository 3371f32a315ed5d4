use Rattle.inode_tree.proofs.PromiseLemmas.{holds_all}
use Rattle.inode_tree.proofs.laws.a_draft_holds_its_footprint.Goals as goal

pub returns : goal.returns
returns c = holds_all
