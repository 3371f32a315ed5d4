use Rattle.std.proofs.Common.{◌++◌, ap, ◌∙◌}
use Rattle.acl_recursive.proofs.BatchAnswers.{all_looked, is_batch}
use Rattle.acl_recursive.proofs.eval.tell.Goals as goal

pub batch_reply-requires : goal.batch_reply-requires
batch_reply-requires g c = record { next = c.requires.run.on_page }

pub returns : goal.returns
returns g c =
    c.settle_all.ensures.evaluated
    (all_looked c.args.call.now c.requires.call c.args.asked.now c.requires.operation (g.V.View.held c.args.view.now) (g.V.View.shown c.args.view.now) c.args.reads.items c.requires.reads c.args.done c.requires.run _ (c.in_ok-all.ensures ∙ ap (λ l. c.args.reads.items ++ l) c.as_slice.ensures.value))
    (is_batch c.args.call.now c.requires.call c.args.asked.now c.requires.operation (g.V.View.held c.args.view.now) (g.V.View.shown c.args.view.now) c.args.reads.items c.requires.reads c.args.done c.requires.run _ (c.in_ok-all.ensures ∙ ap (λ l. c.args.reads.items ++ l) c.as_slice.ensures.value) _ c.in_ok-reply.ensures)
