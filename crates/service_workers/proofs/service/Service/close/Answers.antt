use Rattle.service_workers.proofs.CloseLemmas.{closed_stands}
use Rattle.service_workers.proofs.service.Service.close.Goals as goal

pub returns-clause-stands : goal.returns-clause-stands
returns-clause-stands g c = closed_stands c.close.result.journal.entries c.close.result.parts.items c.close.ensures.parts c.close.ensures.fit
