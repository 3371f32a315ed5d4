use Rattle.file_data.proofs.TroubleLemmas.{flush_below_length, flush_gap, flush_overlap, flush_wrong, flush_never_too_large}
use Rattle.file_data.proofs.laws.a_refused_flush_names_its_trouble.Goals as goal

pub returns-clause-below_length : goal.returns-clause-below_length
returns-clause-below_length c = flush_below_length

pub returns-clause-gap : goal.returns-clause-gap
returns-clause-gap c = flush_gap

pub returns-clause-overlap : goal.returns-clause-overlap
returns-clause-overlap c = flush_overlap

pub returns-clause-wrong_position : goal.returns-clause-wrong_position
returns-clause-wrong_position c = flush_wrong

pub returns-clause-never_too_large : goal.returns-clause-never_too_large
returns-clause-never_too_large c = flush_never_too_large
