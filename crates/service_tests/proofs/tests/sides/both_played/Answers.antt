use Rattle.service_tests.proofs.tests.sides.both_played.Goals as goal

pub returns-clause-again : goal.returns-clause-again
returns-clause-again g c = (c.join.ensures.first.0, c.join.ensures.second.0)

pub returns-clause-nothing : goal.returns-clause-nothing
returns-clause-nothing g c = (c.join.ensures.first.1, c.join.ensures.second.1)
