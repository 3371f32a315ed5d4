use Rattle.std.proofs.Common.{◌<◌, cond, is_ok, ap, subst, ◌∙◌}
use Rattle.std.specs.FinMap as fin
use Rattle.acl_text.specs.Whos.{who_cmp}
use Rattle.acl_text.proofs.EntryLemmas.{put_or_kept_sorted, map-put_or_kept, held_put_or_kept}
use Rattle.acl_text.proofs.entries.Entries.put.Goals as goal

pub invariant_of-self : goal.invariant_of-self
invariant_of-self c =
    rw c.put_in_order.ensures (
      put_or_kept_sorted (is_ok c.put_in_order.result) c.args.who c.args.perm c.self.inside.items.items c.self.invariant.0,
      held_put_or_kept (is_ok c.put_in_order.result) c.args.who c.args.perm c.self.inside.items.items (c.id-id.ensures.id, subst (λ n. n < 8) c.bits-bits.ensures.value c.bits-bits.ensures.small) c.self.invariant.1,
    )

pub returns : goal.returns
returns c =
    ap (fin.from_sorted {R = who_cmp}) c.put_in_order.ensures
    ∙ map-put_or_kept (is_ok c.put_in_order.result) c.args.who c.args.perm c.self.inside.items.items c.self.invariant.0
    ∙ ap (λ m. cond (is_ok c.put_in_order.result) (fin.insert m c.args.who c.args.perm) m) c.self.view_is
