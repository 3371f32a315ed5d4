use Rattle.std.proofs.Common.{◌≡◌, None, [], ◌∷◌, ◌++◌, refl, ap, sym, subst, ◌∙◌}
use Rattle.namespace_model.specs.declared.op.Op.TheVariants as op
use Rattle.path_walk.proofs.Truths.{is_none}
use Rattle.op_delete.specs.Deletes.{refusal_of}
use Rattle.op_delete.proofs.DeleteAnswers.{refused_answer, alone}
use Rattle.op_delete.proofs.eval.delete_node.Goals as goal

pub returns-in-Some-clause-evaluated : goal.returns-in-Some-clause-evaluated
returns-in-Some-clause-evaluated g c =
    refused_answer c.args.call.now c.requires.call c.args.recursive c.requires.operation (g.V.View.held c.args.view.now) (g.V.View.shown c.args.view.now) c.args.target c.requires.target c.in-Some.reply _
    (sym c.in_ok-reply.ensures ∙ c.in-Some.is) c.in_ok-answered.ensures

pub clear-requires-clause-operation : goal.clear-requires-clause-operation
clear-requires-clause-operation g c = c.requires.operation ∙ ap (op.Delete c.args.call.now.path.now) c.if-recursive.true

pub clear-requires-clause-passed : goal.clear-requires-clause-passed
clear-requires-clause-passed g c = subst (λ b. refusal_of c.args.call.now b c.args.target.base.node c.args.target.top.node ≡ None) c.if-recursive.true (sym c.in_ok-reply.ensures ∙ is_none _ c.in_default.not-Some)

pub take_away-requires-clause-looked : goal.take_away-requires-clause-looked
take_away-requires-clause-looked g c = c.requires.target.looked

pub take_away-requires-clause-removal : goal.take_away-requires-clause-removal
take_away-requires-clause-removal g c =
    alone c.args.call.now c.requires.call c.args.recursive c.requires.operation (g.V.View.held c.args.view.now) (g.V.View.shown c.args.view.now) c.args.target c.requires.target (sym c.in_ok-reply.ensures ∙ is_none _ c.in_default.not-Some) c.if-recursive.false _
    refl c.in_ok-copy.ensures (c.in_ok-push.ensures.items ∙ ap (λ l. l ++ c.args.target.top.id ∷ []) c.new-taken.ensures.items)
