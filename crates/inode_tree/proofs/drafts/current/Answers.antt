use Rattle.inode_tree.proofs.DraftLemmas.{find_without_other}
use Rattle.inode_tree.proofs.drafts.current.Goals as goal

pub returns-in-Some-clause-same : goal.returns-in-Some-clause-same
returns-in-Some-clause-same c = λ q h. find_without_other c.args.id q c.args.drafts.now.items c.take_out.new.entries.items c.take_out.ensures.items h

pub returns-in-None-clause-same : goal.returns-in-None-clause-same
returns-in-None-clause-same c = λ q h. find_without_other c.args.id q c.args.drafts.now.items c.take_out.new.entries.items c.take_out.ensures.items h
