use Rattle.head_text.proofs.ConditionLemmas.{met, unmet}
use Rattle.head_text.proofs.laws.the_first_condition_that_fails_is_told.Goals as goal

pub returns-clause-met : goal.returns-clause-met
returns-clause-met c = met

pub returns-clause-unmet : goal.returns-clause-unmet
returns-clause-unmet c = unmet
