use Rattle.namespace_model.proofs.ClosedOperations.{outcome_closed}
use Rattle.namespace_model.proofs.laws.steps_are_closed.Goals as goal

pub returns : goal.returns
returns c = outcome_closed
