use Rattle.path_text.proofs.PathLemmas.{last_is}
use Rattle.path_text.proofs.path.Path.last_name.Goals as goal

pub returns-clause-last : goal.returns-clause-last
returns-clause-last c = last_is c.args.self.now c.part.result.now c.depth-depth.result c.depth-depth.ensures c.part.ensures
