use Rattle.std.proofs.Common.{◌-◌, take, Err, refl, ap, sym, subst, ◌∙◌}
use Rattle.path_text.proofs.PathLemmas.{taken_is_parent}
use Rattle.namespace_model.specs.Refusals.{lacks}
use Rattle.inode_tree.specs.Inodes.{node_of}
use Rattle.path_walk.specs.Answers.{IsAnswered}
use Rattle.path_walk.proofs.CallAnswers.{stopped_by}
use Rattle.path_walk.proofs.CallLemmas.{on_both}
use Rattle.path_walk.proofs.FindLemmas.{child_known, child_needs, nothing_found, parent_later}
use Rattle.path_walk.proofs.Truths.{is_none}
use Rattle.op_delete.proofs.DeleteAnswers.{denied_answer, node_needed, missing_answer, target_found}
use Rattle.op_delete.proofs.eval.delete_in.Goals as goal

pub look_below-requires : goal.look_below-requires
look_below-requires g c = record { known = child_known (g.V.View.held c.args.view.now) (g.V.View.shown c.args.view.now) c.args.call.now.caller.now c.args.call.now.path.now c.args.at c.requires.parent }

pub returns-in-Some-clause-evaluated : goal.returns-in-Some-clause-evaluated
returns-in-Some-clause-evaluated g c =
    denied_answer c.args.call.now c.requires.call c.args.recursive c.requires.operation (g.V.View.held c.args.view.now) (g.V.View.shown c.args.view.now) c.args.at c.requires.parent c.in-Some.reply _
    (ap (λ p. lacks c.args.call.now.caller.now 3 p (node_of c.args.at.node)) (sym (ap (λ k. take (k - 1) c.args.call.now.path.now) c.depth-names.ensures ∙ taken_is_parent c.args.call.now.path.now)) ∙ sym c.in_ok-reply.ensures ∙ c.in-Some.is) c.in_ok-answered.ensures

pub delete_node-requires-clause-target : goal.delete_node-requires-clause-target
delete_node-requires-clause-target g c =
    target_found c.args.call.now c.requires.call c.args.recursive c.requires.operation (g.V.View.held c.look_below.new.view) (g.V.View.shown c.look_below.new.view) c.args.at
    (parent_later c.look_below.ensures.on c.args.at c.requires.parent) (ap (λ p. lacks c.args.call.now.caller.now 3 p (node_of c.args.at.node)) (sym (ap (λ k. take (k - 1) c.args.call.now.path.now) c.depth-names.ensures ∙ taken_is_parent c.args.call.now.path.now)) ∙ sym c.in_ok-reply.ensures ∙ is_none _ c.in_default.not-Some) c.in-Ok.field-0 c.in-Node.id c.in-Node.node c.in-Ok.ensures.look c.in-Node.is _ refl refl refl refl refl refl

pub returns-in-Node-clause-on : goal.returns-in-Node-clause-on
returns-in-Node-clause-on g c = on_both c.look_below.ensures.on c.delete_node.ensures.on

pub returns-in_ok-answered-in_default-found : goal.returns-in_ok-answered-in_default-found
returns-in_ok-answered-in_default-found g c = record {
  on = c.look_below.ensures.on;
  evaluated =
      missing_answer c.args.call.now c.requires.call c.args.recursive c.requires.operation (g.V.View.held c.look_below.new.view) (g.V.View.shown c.look_below.new.view) c.args.at
      (parent_later c.look_below.ensures.on c.args.at c.requires.parent) (ap (λ p. lacks c.args.call.now.caller.now 3 p (node_of c.args.at.node)) (sym (ap (λ k. take (k - 1) c.args.call.now.path.now) c.depth-names.ensures ∙ taken_is_parent c.args.call.now.path.now)) ∙ sym c.in_ok-reply.ensures ∙ is_none _ c.in_default.not-Some) c.in-Ok.field-0 _ c.in-Ok.ensures.look
      (nothing_found (g.V.View.held c.look_below.new.view) (g.V.View.shown c.look_below.new.view) c.args.at.reads.items c.args.at.node c.args.at.name.now c.in-Ok.field-0 c.in-Ok.ensures.look (λ id y is. c.in_default-found.not-Node id y is))
      (subst (λ r. IsAnswered c.args.call.now.request.now.close r c.in-Ok.field-0.ids.items c.in_ok-answered-in_default-found.field-0) c.refusal.ensures c.in_ok-answered-in_default-found.ensures);
}

pub returns-in-Err-clause-evaluated : goal.returns-in-Err-clause-evaluated
returns-in-Err-clause-evaluated g c =
    stopped_by (g.V.View.held c.look_below.new.view) (g.V.View.shown c.look_below.new.view) c.args.call.now c.in-Err.stop (λ n e.
    node_needed c.args.call.now c.requires.call c.args.recursive c.requires.operation (g.V.View.held c.look_below.new.view) (g.V.View.shown c.look_below.new.view) c.args.at
    (parent_later c.look_below.ensures.on c.args.at c.requires.parent) (ap (λ p. lacks c.args.call.now.caller.now 3 p (node_of c.args.at.node)) (sym (ap (λ k. take (k - 1) c.args.call.now.path.now) c.depth-names.ensures ∙ taken_is_parent c.args.call.now.path.now)) ∙ sym c.in_ok-reply.ensures ∙ is_none _ c.in_default.not-Some) n
    (child_needs (g.V.View.held c.look_below.new.view) (g.V.View.shown c.look_below.new.view) c.args.call.now.caller.now c.args.call.now.path.now c.args.at (parent_later c.look_below.ensures.on c.args.at c.requires.parent) n (c.in-Err.ensures.need n (ap Err e))))
