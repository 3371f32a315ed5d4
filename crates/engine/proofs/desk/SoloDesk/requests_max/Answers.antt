use Rattle.serving.proofs.AloneLemmas.{own-alone}
use Rattle.engine.proofs.desk.SoloDesk.requests_max.Goals as goal

pub returns-clause-own : goal.returns-clause-own
returns-clause-own c = own-alone c.args.self.now.entries
