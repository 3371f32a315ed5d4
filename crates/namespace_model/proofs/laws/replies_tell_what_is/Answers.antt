use Rattle.namespace_model.proofs.NamedLaws.{tells_what_is}
use Rattle.namespace_model.proofs.laws.replies_tell_what_is.Goals as goal

pub returns : goal.returns
returns c = λ t e number is sound. tells_what_is t is e sound number
