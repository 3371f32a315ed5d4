use Rattle.std.proofs.Common.{Err, ap, subst}
use Rattle.namespace_model.specs.declared.code.Code.TheVariants.{PathNotFound}
use Rattle.path_walk.specs.Answers.{IsAnswered}
use Rattle.path_walk.specs.Parents.{IsEntered}
use Rattle.path_walk.proofs.CallAnswers.{stopped_by, stop_answer, walk_need}
use Rattle.path_walk.proofs.CallLemmas.{on_both}
use Rattle.op_delete.proofs.DeleteAnswers.{some_path, walks}
use Rattle.op_delete.proofs.eval.delete.Goals as goal

pub enter-requires : goal.enter-requires
enter-requires g c = record { below = some_path c.args.call.now c.requires.call c.args.recursive c.requires.operation }

pub delete_in-requires-clause-parent : goal.delete_in-requires-clause-parent
delete_in-requires-clause-parent g c =
    subst (λ e. IsEntered (g.V.View.held c.enter.new.view) (g.V.View.shown c.enter.new.view) c.args.call.now.caller.now c.args.call.now.path.now e) c.in-Ok-At.field-0-is c.in-Ok-At.ensures.entered

pub returns-in-Ok-At-clause-on : goal.returns-in-Ok-At-clause-on
returns-in-Ok-At-clause-on g c = on_both c.enter.ensures.on c.delete_in.ensures.on

pub returns-in_ok-answered-in-Ok-Ended-clause-evaluated : goal.returns-in_ok-answered-in-Ok-Ended-clause-evaluated
returns-in_ok-answered-in-Ok-Ended-clause-evaluated g c =
    stop_answer (g.V.View.held c.enter.new.view) (g.V.View.shown c.enter.new.view) c.args.call.now c.args.call.now.caller.now c.args.call.now.path.now PathNotFound c.in-Ok-Ended.ids.items c.in-Ok-Ended.end c.in_ok-answered-in-Ok-Ended.field-0 c.requires.call
    (subst (λ e. IsEntered (g.V.View.held c.enter.new.view) (g.V.View.shown c.enter.new.view) c.args.call.now.caller.now c.args.call.now.path.now e) c.in-Ok-Ended.field-0-is c.in-Ok-Ended.ensures.entered)
    (subst (λ r. IsAnswered c.args.call.now.request.now.close r c.in-Ok-Ended.ids.items c.in_ok-answered-in-Ok-Ended.field-0) c.stop_reply.ensures c.in_ok-answered-in-Ok-Ended.ensures)
    (walks c.args.call.now c.requires.call c.args.recursive c.requires.operation)

pub returns-in-Err-clause-evaluated : goal.returns-in-Err-clause-evaluated
returns-in-Err-clause-evaluated g c =
    stopped_by (g.V.View.held c.enter.new.view) (g.V.View.shown c.enter.new.view) c.args.call.now c.in-Err.stop (λ n e.
    walk_need (g.V.View.held c.enter.new.view) (g.V.View.shown c.enter.new.view) c.args.call.now c.args.call.now.caller.now c.args.call.now.path.now PathNotFound n (c.in-Err.ensures.need n (ap Err e)) (walks c.args.call.now c.requires.call c.args.recursive c.requires.operation))
