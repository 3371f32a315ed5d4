use Rattle.file_data.proofs.AppendLemmas.{appended_length, appended_last}
use Rattle.file_data.proofs.laws.what_was_appended_and_flushed_is_read.Goals as goal

pub returns-clause-length : goal.returns-clause-length
returns-clause-length c = appended_length

pub returns-clause-last : goal.returns-clause-last
returns-clause-last c = appended_last
