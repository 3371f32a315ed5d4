use Rattle.std.proofs.Common.{◌<◌, ◌++◌, [], ◌∷◌, sym, ap, ◌∙◌, arith}
use Rattle.inode_tree.specs.declared.id.NodeId.{NodeId}
use Rattle.inode_tree.specs.Drawing.{next_ids}
use Rattle.service_workers.proofs.DrawLemmas.{next_push}
use Rattle.service_workers.proofs.prepare.draw_ids.Goals as goal

pub loop-place-preserved : goal.loop-place-preserved
loop-place-preserved c =
    let test : c.loop-place.place < c.args.many = c.loop-place-test.true in (
      c.in_ok-push.ensures.items ∙ ap (λ l. l ++ c.id.result ∷ []) c.loop-place.invariant.0
          ∙ ap (λ n. next_ids c.args.fresh.now.pass c.args.fresh.now.used c.loop-place.place ++ (let i : NodeId = record { 0 = n } in i) ∷ []) c.id.ensures ∙ sym (next_push c.args.fresh.now.pass c.args.fresh.now.used c.loop-place.place),
      omega (arith, test),
    )
