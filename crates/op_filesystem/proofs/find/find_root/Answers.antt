use Rattle.std.proofs.Common.{sym, subst, ◌∙◌}
use Rattle.inode_tree.specs.declared.draft.EvalStop.TheVariants as stop
use Rattle.path_walk.specs.Answers.{IsAnswered}
use Rattle.path_walk.proofs.StepLemmas.{same_error}
use Rattle.op_filesystem.proofs.RootLemmas.{behind_root, root_needed, missing_answer, root_reached}
use Rattle.op_filesystem.proofs.SuperuserLemmas.{denied_answer}
use Rattle.op_filesystem.proofs.find.find_root.Goals as goal

pub returns-in-Some-clause-reached : goal.returns-in-Some-clause-reached
returns-in-Some-clause-reached g c =
    denied_answer c.args.call.now c.requires.call (behind_root c.args.call.now.path.now c.requires.operation.some) c.requires.operation.asks (g.V.View.held c.args.view.now) (g.V.View.shown c.args.view.now) c.in-Some.reply _ _
    (sym c.in_ok-reply.ensures ∙ c.in-Some.is) c.new.ensures.items c.in_ok-draft.ensures

pub returns-in-Node-clause-reached : goal.returns-in-Node-clause-reached
returns-in-Node-clause-reached g c =
    root_reached c.args.call.now c.requires.call c.requires.operation (sym c.in_ok-reply.ensures ∙ c.in_default.is) (g.V.View.held c.look_up.new.view) (g.V.View.shown c.look_up.new.view) c.in-Ok.field-0
    c.in-Ok.ensures.found c.in-Ok.ensures.looked c.in-Node.id c.in-Node.node c.in-Node.is

pub returns-in-Ok : goal.returns-in-Ok
returns-in-Ok g c = record {
  on = c.look_up.ensures.on;
  reached =
      missing_answer c.args.call.now c.requires.call c.requires.operation (sym c.in_ok-reply.ensures ∙ c.in_default.is) (g.V.View.held c.look_up.new.view) (g.V.View.shown c.look_up.new.view) c.in-Ok.field-0
      c.in-Ok.ensures.found c.in-Ok.ensures.looked c.in_ok-answered-in_default-found.field-0 (λ id x is. c.in_default-found.not-Node id x is)
      (subst (λ r. IsAnswered c.args.call.now.request.now.close r c.in-Ok.field-0.ids.items c.in_ok-answered-in_default-found.field-0) c.refusal-reply.ensures c.in_ok-answered-in_default-found.ensures);
  need = λ n e. absurd (cc);
}

pub returns-clause-need : goal.returns-clause-need
returns-clause-need g c = λ n e.
    root_needed c.args.call.now c.requires.call c.requires.operation (sym c.in_ok-reply.ensures ∙ c.in_default.is) (g.V.View.held c.look_up.new.view) (g.V.View.shown c.look_up.new.view) n
    (c.in-Err.ensures.need n (same_error c.in-Err.stop (stop.Need n) e))
