use Rattle.std.proofs.Common.{ap, sym, subst, ◌∙◌}
use Rattle.namespace_model.specs.Replies.{success}
use Rattle.path_walk.specs.Settles.{IsRemovalOf}
use Rattle.op_delete.proofs.eval.take_away.Goals as goal

pub returns : goal.returns
returns g c =
    c.settle_removal.ensures.evaluated c.requires.looked
    (subst (λ r. IsRemovalOf (g.V.View.shown c.args.view.now) c.args.call.now c.args.reads.items c.args.removal r) (sym (c.success-reply.ensures ∙ ap (success 200) c.new.ensures.items)) c.requires.removal)
