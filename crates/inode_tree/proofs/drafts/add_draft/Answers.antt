use Rattle.inode_tree.proofs.DraftLemmas.{drafted_where_ok}
use Rattle.inode_tree.proofs.drafts.add_draft.Goals as goal

pub returns-clause-drafted : goal.returns-clause-drafted
returns-clause-drafted c =
    drafted_where_ok c.put.result c.args.nodes.now c.args.change.now c.args.drafts.now.items c.drafted.new.drafts.items c.put.new.entries.items
    c.id_of.result c.in_ok-draft.draft c.id_of.ensures c.in_ok-draft.ensures.after c.in_ok-draft.ensures.same c.put.ensures.items
