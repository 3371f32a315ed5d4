use Rattle.std.proofs.Common.{sym, ◌∙◌}
use Rattle.service_tests.proofs.TeamLemmas.{new_team}
use Rattle.service_tests.proofs.tests.team.Team.open.Goals as goal

pub invariant_of-result : goal.invariant_of-result
invariant_of-result g c = new_team _ _ c.in_ok-service.ensures.new (c.in_ok-service.ensures.many.1 ∙ sym c.in_ok-service.ensures.many.0)
