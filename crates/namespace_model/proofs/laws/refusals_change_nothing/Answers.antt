use Rattle.std.proofs.Common.{ap}
use Rattle.namespace_model.specs.Effects.{effected}
use Rattle.namespace_model.proofs.QuietLaws.{outcome_quiet}
use Rattle.namespace_model.proofs.laws.refusals_change_nothing.Goals as goal

pub returns : goal.returns
returns c = record {
  quiet = outcome_quiet;
  tree = λ t e number coded. ap (λ effect. effected number effect t) (outcome_quiet t e coded).effect;
}
