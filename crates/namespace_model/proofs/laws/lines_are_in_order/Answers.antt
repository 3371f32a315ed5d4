use Rattle.namespace_model.specs.Step.{outcome}
use Rattle.namespace_model.proofs.LineLaws.{outcome_in_order, one_tag}
use Rattle.namespace_model.proofs.laws.lines_are_in_order.Goals as goal

pub returns : goal.returns
returns c = record { order = outcome_in_order; tags = λ t e. one_tag (outcome t e).reply.fields 0 (outcome_in_order t e) }
