use Rattle.file_data.proofs.OrderLemmas.{stage_passes, stage_below_length, stage_too_large}
use Rattle.file_data.proofs.laws.a_refused_stage_names_its_trouble.Goals as goal

pub returns-clause-allowed : goal.returns-clause-allowed
returns-clause-allowed c = stage_passes

pub returns-clause-below_length : goal.returns-clause-below_length
returns-clause-below_length c = stage_below_length

pub returns-clause-too_large : goal.returns-clause-too_large
returns-clause-too_large c = stage_too_large
