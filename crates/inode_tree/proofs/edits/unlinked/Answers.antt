use Rattle.inode_tree.proofs.MapLemmas.{unlinked_is}
use Rattle.inode_tree.proofs.edits.unlinked.Goals as goal

pub returns-in_ok-unlink-in-Directory : goal.returns-in_ok-unlink-in-Directory
returns-in_ok-unlink-in-Directory c = rw c.in-Directory.is (unlinked_is c.args.name.now _ _ c.in_ok-unlink-in-Directory.ensures.links)
