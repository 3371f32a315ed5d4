use Rattle.namespace_model.proofs.DenialLaws.{outcome_denies_rightly, outcome_names_denials}
use Rattle.namespace_model.proofs.laws.denials_name_their_rule.Goals as goal

pub returns : goal.returns
returns c = record { named = outcome_names_denials; right = λ t e root. outcome_denies_rightly t root e }
