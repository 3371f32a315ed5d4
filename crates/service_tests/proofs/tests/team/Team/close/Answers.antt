use Rattle.service_tests.proofs.TeamLemmas.{every_one}
use Rattle.service_tests.proofs.tests.team.Team.close.Goals as goal

pub close-requires : goal.close-requires
close-requires g c = every_one _ _ c.self.invariant
