use Rattle.std.proofs.Common.{true, ◌++◌, Err, refl, ap, ◌∙◌}
use Rattle.path_walk.proofs.CallAnswers.{stopped_by}
use Rattle.path_walk.proofs.Truths.{is_none}
use Rattle.op_delete.proofs.DeleteAnswers.{some_path, is_top, target_later, below_needed, all_looked, below_answer, all_below}
use Rattle.op_delete.proofs.eval.clear.Goals as goal

pub look_through-requires-clause-below : goal.look_through-requires-clause-below
look_through-requires-clause-below g c = some_path c.args.call.now c.requires.call true c.requires.operation

pub look_through-requires-clause-top : goal.look_through-requires-clause-top
look_through-requires-clause-top g c = is_top c.args.call.now c.requires.call true c.requires.operation (g.V.View.held c.args.view.now) (g.V.View.shown c.args.view.now) c.args.target c.requires.target

pub look_through-requires-clause-looked : goal.look_through-requires-clause-looked
look_through-requires-clause-looked g c = c.requires.target.top_looked

pub returns-in-Some-clause-evaluated : goal.returns-in-Some-clause-evaluated
returns-in-Some-clause-evaluated g c =
    below_answer c.args.call.now c.requires.call true c.requires.operation (g.V.View.held c.look_through.new.view) (g.V.View.shown c.look_through.new.view) c.args.target (target_later c.look_through.ensures.on c.args.call.now c.args.target c.requires.target)
    c.requires.passed refl c.in-Ok.field-0 c.in-Ok.ensures.cleared _ (c.in_ok-extend_from_slice-in-Ok.ensures.items ∙ ap (λ l. c.args.target.reads.items ++ l) c.as_slice.ensures.value) c.in-Some.reply _ c.in-Some.is
    c.in_ok-answered-in-Ok.ensures

pub take_away-requires-clause-looked : goal.take_away-requires-clause-looked
take_away-requires-clause-looked g c =
    all_looked c.args.call.now c.requires.call true c.requires.operation (g.V.View.held c.look_through.new.view) (g.V.View.shown c.look_through.new.view) c.args.target (target_later c.look_through.ensures.on c.args.call.now c.args.target c.requires.target)
    c.requires.passed refl c.in-Ok.field-0 c.in-Ok.ensures.cleared _ (c.in_ok-extend_from_slice-in-Ok.ensures.items ∙ ap (λ l. c.args.target.reads.items ++ l) c.as_slice.ensures.value)

pub take_away-requires-clause-removal : goal.take_away-requires-clause-removal
take_away-requires-clause-removal g c =
    all_below c.args.call.now c.requires.call true c.requires.operation (g.V.View.held c.look_through.new.view) (g.V.View.shown c.look_through.new.view) c.args.target (target_later c.look_through.ensures.on c.args.call.now c.args.target c.requires.target)
    c.requires.passed refl c.in-Ok.field-0 c.in-Ok.ensures.cleared _ (c.in_ok-extend_from_slice-in-Ok.ensures.items ∙ ap (λ l. c.args.target.reads.items ++ l) c.as_slice.ensures.value) (is_none _ c.in_default.not-Some) _ refl c.in_ok-copy-in-Ok.ensures refl

pub returns-in-Err-clause-evaluated : goal.returns-in-Err-clause-evaluated
returns-in-Err-clause-evaluated g c =
    stopped_by (g.V.View.held c.look_through.new.view) (g.V.View.shown c.look_through.new.view) c.args.call.now c.in-Err.stop (λ n e.
    below_needed c.args.call.now c.requires.call true c.requires.operation (g.V.View.held c.look_through.new.view) (g.V.View.shown c.look_through.new.view) c.args.target (target_later c.look_through.ensures.on c.args.call.now c.args.target c.requires.target)
    c.requires.passed refl n (c.in-Err.ensures.need n (ap Err e)))
