use Rattle.std.proofs.Common.{◌++◌, refl, ap, ◌∙◌}
use Rattle.dir_rename.proofs.RenameLemmas.{too_long_answer, all_fit}
use Rattle.dir_rename.proofs.eval.fit_in.Goals as goal

pub returns-then-through : goal.returns-then-through
returns-then-through g c =
    too_long_answer c.args.call.now c.requires.call c.args.asked.now c.requires.operation (g.V.View.held c.args.view.now) (g.V.View.shown c.args.view.now) c.args.ends c.requires.ends c.requires.through.0 c.requires.through.1.0 c.args.through c.requires.through.1.1
    _ (c.in_ok-extend_from_slice.ensures.items ∙ ap (λ l. c.args.ends.reads.items ++ l) c.as_slice.ensures.value) c.if-through.true _ c.refusal-reply.ensures _ c.in_ok-answered.ensures

pub move_node-requires-clause-ends : goal.move_node-requires-clause-ends
move_node-requires-clause-ends g c =
    all_fit c.args.call.now c.requires.call c.args.asked.now c.requires.operation (g.V.View.held c.args.view.now) (g.V.View.shown c.args.view.now) c.args.ends c.requires.ends c.requires.through.0 c.requires.through.1.0 c.args.through c.requires.through.1.1
    _ (c.in_ok-extend_from_slice.ensures.items ∙ ap (λ l. c.args.ends.reads.items ++ l) c.as_slice.ensures.value) c.if-through.false _ refl refl refl refl refl refl refl
