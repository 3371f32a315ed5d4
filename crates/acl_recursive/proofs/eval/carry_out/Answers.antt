use Rattle.std.proofs.Common.{Err, refl, sym, ap, ◌∙◌}
use Rattle.namespace_model.specs.Outcomes.{answered}
use Rattle.namespace_model.specs.Replies.{refusal}
use Rattle.path_walk.specs.declared.find.Found.TheVariants as found
use Rattle.path_walk.proofs.CallAnswers.{stopped_by}
use Rattle.path_walk.proofs.CallLemmas.{on_both}
use Rattle.acl_recursive.proofs.BatchAnswers.{some_path, lost_answer, find_needed, target_found}
use Rattle.acl_recursive.proofs.eval.carry_out.Goals as goal

pub look_up-requires : goal.look_up-requires
look_up-requires g c = record { below = some_path c.args.call.now c.requires.call c.args.asked.now c.requires.operation }

pub change_all-requires-clause-target : goal.change_all-requires-clause-target
change_all-requires-clause-target g c =
    target_found c.args.call.now c.requires.call c.args.asked.now c.requires.operation (g.V.View.held c.look_up.new.view) (g.V.View.shown c.look_up.new.view) c.in-Ok.field-0 _ c.in-Node.node _ c.stands.ensures
    c.in-Ok.ensures.found c.in-Ok.ensures.looked c.in-Node.is refl refl

pub returns-in-Node-clause-on : goal.returns-in-Node-clause-on
returns-in-Node-clause-on g c = on_both c.look_up.ensures.on c.change_all.ensures.on

pub returns-in_ok-answered-in-Nothing-clause-evaluated : goal.returns-in_ok-answered-in-Nothing-clause-evaluated
returns-in_ok-answered-in-Nothing-clause-evaluated g c =
    lost_answer c.args.call.now c.requires.call c.args.asked.now c.requires.operation (g.V.View.held c.look_up.new.view) (g.V.View.shown c.look_up.new.view) c.in-Ok.field-0 found.Nothing _ _
    c.in-Ok.ensures.found c.in-Ok.ensures.looked c.in-Nothing.is c.in_ok-answered-in-Nothing.ensures (λ some. sym (ap answered (c.refusal.ensures ∙ ap refusal c.missing_code.ensures)))

pub returns-in_ok-answered-in-Stopped-clause-evaluated : goal.returns-in_ok-answered-in-Stopped-clause-evaluated
returns-in_ok-answered-in-Stopped-clause-evaluated g c =
    lost_answer c.args.call.now c.requires.call c.args.asked.now c.requires.operation (g.V.View.held c.look_up.new.view) (g.V.View.shown c.look_up.new.view) c.in-Ok.field-0 (found.Stopped c.in-Stopped.end) _ _
    c.in-Ok.ensures.found c.in-Ok.ensures.looked c.in-Stopped.is c.in_ok-answered-in-Stopped.ensures (λ some. sym (ap answered c.stop_reply.ensures))

pub returns-in-Err-clause-evaluated : goal.returns-in-Err-clause-evaluated
returns-in-Err-clause-evaluated g c =
    stopped_by (g.V.View.held c.look_up.new.view) (g.V.View.shown c.look_up.new.view) c.args.call.now c.in-Err.stop (λ n e.
    find_needed c.args.call.now c.requires.call c.args.asked.now c.requires.operation (g.V.View.held c.look_up.new.view) (g.V.View.shown c.look_up.new.view) n (c.in-Err.ensures.need n (ap Err e)))
