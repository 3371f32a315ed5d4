use Rattle.std.proofs.Common.{Err, ap, sym, ◌∙◌}
use Rattle.namespace_model.specs.Outcomes.{answered}
use Rattle.namespace_model.specs.Replies.{refusal}
use Rattle.path_walk.specs.Answers.{found_outcome}
use Rattle.path_walk.proofs.CallAnswers.{look_answer, look_lacks, stopped_by}
use Rattle.path_walk.proofs.SeatLemmas.{find_seat}
use Rattle.op_meta.specs.Metas.{comes_of}
use Rattle.op_meta.proofs.StepLemmas.{looks_as, some_path, verdict_for_all}
use Rattle.op_meta.proofs.eval.carry_out.Goals as goal

pub look_up-requires : goal.look_up-requires
look_up-requires g c = record { below = some_path c.args.call.now c.requires.call c.requires.operation }

pub returns-in_ok-verdict-in-Node-clause-evaluated : goal.returns-in_ok-verdict-in-Node-clause-evaluated
returns-in_ok-verdict-in-Node-clause-evaluated g c =
    c.settle.ensures.evaluated (λ e. comes_of e c.args.call.now.path.now c.args.call.now.request.now.op) c.in-Node.node (looks_as c.args.call.now c.requires.call c.requires.operation)
    (find_seat (g.V.View.held c.look_up.new.view) (g.V.View.shown c.look_up.new.view) c.args.call.now.caller.now c.args.call.now.path.now c.in-Ok.field-0 c.in-Node.id c.in-Node.node c.in-Node.is c.in-Ok.ensures.found c.in-Ok.ensures.looked)
    (verdict_for_all c.args.call.now c.in-Node.node c.in_ok-verdict-in-Node.verdict c.in_ok-verdict-in-Node.ensures)

pub returns-in_ok-answered-in-Nothing-clause-evaluated : goal.returns-in_ok-answered-in-Nothing-clause-evaluated
returns-in_ok-answered-in-Nothing-clause-evaluated g c =
    look_answer (g.V.View.held c.look_up.new.view) (g.V.View.shown c.look_up.new.view) c.args.call.now (λ e. comes_of e c.args.call.now.path.now c.args.call.now.request.now.op) c.in-Ok.field-0 c.refusal.result _ c.requires.call
    (looks_as c.args.call.now c.requires.call c.requires.operation) c.in-Ok.ensures.found c.in-Ok.ensures.looked c.in_ok-answered-in-Nothing.ensures
    (λ e asks at. ap (found_outcome c.args.call.now.path.now (comes_of e c.args.call.now.path.now c.args.call.now.request.now.op)) c.in-Nothing.is ∙ ap answered (sym (c.refusal.ensures ∙ ap refusal c.missing_code.ensures)))

pub returns-in_ok-answered-in-Stopped-clause-evaluated : goal.returns-in_ok-answered-in-Stopped-clause-evaluated
returns-in_ok-answered-in-Stopped-clause-evaluated g c =
    look_answer (g.V.View.held c.look_up.new.view) (g.V.View.shown c.look_up.new.view) c.args.call.now (λ e. comes_of e c.args.call.now.path.now c.args.call.now.request.now.op) c.in-Ok.field-0 c.stop_reply.result _ c.requires.call
    (looks_as c.args.call.now c.requires.call c.requires.operation) c.in-Ok.ensures.found c.in-Ok.ensures.looked c.in_ok-answered-in-Stopped.ensures
    (λ e asks at. ap (found_outcome c.args.call.now.path.now (comes_of e c.args.call.now.path.now c.args.call.now.request.now.op)) c.in-Stopped.is ∙ ap answered (sym c.stop_reply.ensures))

pub returns-in-Err-clause-evaluated : goal.returns-in-Err-clause-evaluated
returns-in-Err-clause-evaluated g c =
    stopped_by _ _ c.args.call.now c.in-Err.stop (λ n e. look_lacks _ _ c.args.call.now (λ e. comes_of e c.args.call.now.path.now c.args.call.now.request.now.op) n c.requires.call (looks_as c.args.call.now c.requires.call c.requires.operation)
    (c.in-Err.ensures.need n (ap Err e)))
