use Rattle.std.proofs.Common.{refl, subst, ◌∙◌}
use Rattle.path_walk.specs.declared.stop.End.TheVariants as end
use Rattle.path_walk.specs.Visits.{IsVisitFor}
use Rattle.path_walk.proofs.FindLemmas.{visit_parent}
use Rattle.op_create.proofs.CreateLemmas.{answer_draft}
use Rattle.op_create.proofs.PlaceLemmas.{path_is_some, stops_else, stop_comes}
use Rattle.op_create.proofs.eval.create_behind.Goals as goal

pub parent_at-at-requires : goal.parent_at-at-requires
parent_at-at-requires g c = record { below = path_is_some c.args.call.now c.args.new.now c.requires.create }

pub create_in-requires-clause-parent : goal.create_in-requires-clause-parent
create_in-requires-clause-parent g c =
    visit_parent _ _ _ _ c.args.visit c.parent_at-at.result c.requires.visited c.requires.looked c.in-Reached.is
    (c.parent_at-at.ensures.reads ∙ c.into_items.ensures) c.parent_at-at.ensures.id c.parent_at-at.ensures.node c.parent_at-at.ensures.named

pub create_under-requires-clause-visited : goal.create_under-requires-clause-visited
create_under-requires-clause-visited g c =
    subst (λ s. IsVisitFor (g.V.View.shown c.args.view.now) c.args.call.now.caller.now c.args.call.now.path.now (record { ids = c.args.visit.ids; base = c.args.visit.base; end = s }))
    c.in-NotFound.is c.requires.visited

pub returns-in_ok-stopped-in-NotFound-clause-evaluated : goal.returns-in_ok-stopped-in-NotFound-clause-evaluated
returns-in_ok-stopped-in-NotFound-clause-evaluated g c =
    answer_draft c.args.call.now c.args.new.now c.requires.create _ _ c.args.visit.ids _ c.in_ok-stopped-in-NotFound.field-0 c.requires.looked c.in_ok-stopped-in-NotFound.ensures
    (stop_comes c.args.call.now c.args.new.now c.requires.create (g.V.View.held c.args.view.now) _ c.args.visit c.requires.visited (end.NotFound c.in-NotFound.depth) c.in-NotFound.is c.if-depth-gt1.false)

pub returns-in_ok-stopped-in_default-clause-evaluated : goal.returns-in_ok-stopped-in_default-clause-evaluated
returns-in_ok-stopped-in_default-clause-evaluated g c =
    answer_draft c.args.call.now c.args.new.now c.requires.create _ _ c.args.visit.ids _ c.in_ok-stopped-in_default.field-0 c.requires.looked c.in_ok-stopped-in_default.ensures
    (stop_comes c.args.call.now c.args.new.now c.requires.create (g.V.View.held c.args.view.now) _ c.args.visit c.requires.visited c.args.visit.end refl (stops_else _ c.in_default.not-Reached c.in_default.not-NotFound))
