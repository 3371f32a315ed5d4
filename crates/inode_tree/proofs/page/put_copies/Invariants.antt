use Rattle.std.proofs.Common.{◌≡◌, ◌++◌, take}
use Rattle.inode_tree.proofs.page.put_copies.Given as goal

abbrev pub invariant-loop-link : goal.invariant-loop-link
invariant-loop-link l = l.into.items ≡ l.initial.into.items ++ take l.link-index l.links
