use Rattle.std.proofs.Common.{Some, ap, sym, ◌∙◌}
use Rattle.std.specs.Ordering.{nat_cmp}
use Rattle.std.specs.Cmp.{nat_cmp_total}
use Rattle.std.specs.FinMap as fin
use Rattle.inode_tree.specs.Stripes.{StripeRecord}
use Rattle.inode_tree.proofs.PlaceLemmas.{found_at, free_at, in_order}
use Rattle.inode_tree.proofs.stripe.Stripe.node.Goals as goal

pub returns-in_ok-copy-in-Ok : goal.returns-in_ok-copy-in-Ok
returns-in_ok-copy-in-Ok c =
    let at = rw c.as_slice.ensures.value at c.in-Ok.ensures in
    let place = found_at nat_cmp nat_cmp_total c.args.id.0 c.self.inside.nodes.items c.in-Ok.at c.index.result.now (in_order _ c.self.invariant.ascends) at.0 (at.1 c.index.result.now) in
    ap Some (c.in_ok-copy-in-Ok.ensures ∙ ap (λ x. x.1) c.index.ensures) ∙ sym place.found
    ∙ sym (fin.get-from_entries nat_cmp_total c.self.inside.nodes.items c.args.id.0) ∙ ap (λ (s : StripeRecord). fin.get s.part c.args.id.0) c.self.view_is

pub returns-in-Err : goal.returns-in-Err
returns-in-Err c =
    let at = rw c.as_slice.ensures.value at c.in-Err.ensures in
    let place = free_at nat_cmp nat_cmp_total c.args.id.0 c.self.inside.nodes.items c.in-Err.field-0 at.0 at.1 in
    sym place.missing
    ∙ sym (fin.get-from_entries nat_cmp_total c.self.inside.nodes.items c.args.id.0) ∙ ap (λ (s : StripeRecord). fin.get s.part c.args.id.0) c.self.view_is
