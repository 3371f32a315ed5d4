use Rattle.std.proofs.Common.{refl, ◌∙◌}
use Rattle.inode_tree.specs.declared.draft.EvalStop.TheVariants as stop
use Rattle.path_walk.proofs.FindLemmas.{visit_parent, visit_stop}
use Rattle.path_walk.proofs.StepLemmas.{same_error}
use Rattle.path_walk.proofs.parent.enter.Goals as goal

pub returns-in-Reached-clause-entered : goal.returns-in-Reached-clause-entered
returns-in-Reached-clause-entered g c =
    visit_parent _ _ _ _ c.in-Ok.field-0 c.parent_at.result c.in-Ok.ensures.visited c.in-Ok.ensures.looked c.in-Reached.is
    (c.parent_at.ensures.reads ∙ c.into_items.ensures) c.parent_at.ensures.id c.parent_at.ensures.node c.parent_at.ensures.named

pub returns-in_default : goal.returns-in_default
returns-in_default g c = record {
  on = c.visit.ensures.on;
  entered = visit_stop _ _ _ _ c.in-Ok.field-0 c.in-Ok.field-0.end _ c.in-Ok.ensures.visited c.in-Ok.ensures.looked refl c.in_default.not-Reached c.into_items-in_default.ensures;
  need = λ n e. absurd (cc);
}

pub returns-in-Err-clause-need : goal.returns-in-Err-clause-need
returns-in-Err-clause-need g c = λ n e. c.in-Err.ensures.need n (same_error c.in-Err.stop (stop.Need n) e)
