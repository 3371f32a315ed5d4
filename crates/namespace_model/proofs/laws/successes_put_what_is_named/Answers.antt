use Rattle.namespace_model.proofs.NamedLaws.{puts_named}
use Rattle.namespace_model.proofs.laws.successes_put_what_is_named.Goals as goal

pub returns : goal.returns
returns c = λ t e number is sound uncoded. puts_named t is e sound number uncoded
