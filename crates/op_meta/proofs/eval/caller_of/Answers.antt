use Rattle.std.proofs.Common.{subst}
use Rattle.namespace_model.specs.Sound.{HasCaller}
use Rattle.op_meta.proofs.StepLemmas.{some_caller}
use Rattle.op_meta.proofs.eval.caller_of.Goals as goal

pub unreachable-requires : goal.unreachable-requires
unreachable-requires c = some_caller c.args.request.now.op c.requires.operation (subst (HasCaller c.args.request.now.op) c.in-None.is c.requires.sound.caller)
