use Rattle.namespace_model.proofs.LineLaws.{outcome_few}
use Rattle.namespace_model.proofs.laws.new_nodes_are_few.Goals as goal

pub returns : goal.returns
returns c = outcome_few
