use Rattle.std.proofs.Common.{arith}
use Rattle.inode_tree.proofs.PageLists.{set_is}
use Rattle.inode_tree.proofs.pages.set_page.Goals as goal

pub returns-then-at-len-clause-items : goal.returns-then-at-len-clause-items
returns-then-at-len-clause-items c = set_is c.args.pages.now.items c.args.at c.args.page (omega arith)
