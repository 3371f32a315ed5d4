use Rattle.std.proofs.Common.{refl}
use Rattle.op_decode.specs.Operations.{operation_of}
use Rattle.op_decode.proofs.operation.Operation.of.Goals as goal

pub returns-in-Other : goal.returns-in-Other
unfolding operation_of
returns-in-Other c = rw c.in-Other.is refl
