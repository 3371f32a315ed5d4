use Rattle.namespace_model.proofs.StepShapes.{outcome_shaped, step_is_tree}
use Rattle.namespace_model.proofs.laws.steps_keep_trees.Goals as goal

pub returns : goal.returns
returns c = record { shaped = λ t e is sound. outcome_shaped t is e sound; tree = λ t e number is sound. step_is_tree t is e sound number }
