use Rattle.std.proofs.Common.{Some, ap, sym, ◌∙◌}
use Rattle.std.specs.Ordering.{nat_cmp}
use Rattle.std.specs.Cmp.{nat_cmp_total}
use Rattle.inode_tree.proofs.PlaceLemmas.{found_at, free_at, in_order}
use Rattle.inode_tree.proofs.drafts.kept.Goals as goal

pub returns-in_ok-copied_inode-in-Ok : goal.returns-in_ok-copied_inode-in-Ok
returns-in_ok-copied_inode-in-Ok c =
    let place = found_at nat_cmp nat_cmp_total c.args.id c.args.nodes.now c.in-Ok.at c.index-nodes-at.result (in_order _ c.requires) c.in-Ok.ensures.0 (c.in-Ok.ensures.1 c.index-nodes-at.result) in
    λ number. ap Some c.in_ok-copied_inode-in-Ok.ensures ∙ sym place.found

pub returns-in-Err : goal.returns-in-Err
returns-in-Err c =
    let place = free_at nat_cmp nat_cmp_total c.args.id c.args.nodes.now c.in-Err.field-0 c.in-Err.ensures.0 c.in-Err.ensures.1 in
    λ number. sym place.missing
