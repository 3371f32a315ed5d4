use Rattle.namespace_model.proofs.PlaceLaws.{outcome_denies_in_place}
use Rattle.namespace_model.proofs.laws.denials_are_in_place.Goals as goal

pub returns : goal.returns
returns c = outcome_denies_in_place
