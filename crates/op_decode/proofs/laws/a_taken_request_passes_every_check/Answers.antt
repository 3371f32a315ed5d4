use Rattle.op_decode.proofs.OrderLemmas.{taken_passes}
use Rattle.op_decode.proofs.laws.a_taken_request_passes_every_check.Goals as goal

pub returns : goal.returns
returns c = taken_passes
