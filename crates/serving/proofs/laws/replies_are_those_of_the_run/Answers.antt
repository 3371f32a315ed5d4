use Rattle.serving.proofs.Texts.{spells_the_run}
use Rattle.serving.proofs.laws.replies_are_those_of_the_run.Goals as goal

pub returns : goal.returns
returns c = spells_the_run
