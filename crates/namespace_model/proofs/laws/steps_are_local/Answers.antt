use Rattle.namespace_model.proofs.StepLocality.{outcome_local}
use Rattle.namespace_model.proofs.laws.steps_are_local.Goals as goal

pub returns : goal.returns
returns c = outcome_local
