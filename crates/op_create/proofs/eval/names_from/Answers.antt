use Rattle.op_create.proofs.PlaceLemmas.{names_left}
use Rattle.op_create.proofs.eval.names_from.Goals as goal

pub returns : goal.returns
returns c = names_left c.args.depth c.args.path.now c.names.result.now c.names.ensures c.requires.below
