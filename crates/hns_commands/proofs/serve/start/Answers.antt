use Rattle.std.proofs.Common.{sym, subst}
use Rattle.striped_store.specs.Views.{AreNewPasses}
use Rattle.hns_commands.proofs.serve.start.Goals as goal

pub returns-clause-new : goal.returns-clause-new
returns-clause-new g c = subst (λ passes. AreNewPasses c.in_ok-service.service passes) (sym c.in_ok-workers.ensures) c.in_ok-service.ensures.new
