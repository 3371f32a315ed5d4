use Rattle.file_data.proofs.AppendLemmas.{append_flush_allowed, append_flush_refused}
use Rattle.file_data.proofs.laws.an_append_with_flush_is_both_steps.Goals as goal

pub returns-clause-allowed : goal.returns-clause-allowed
returns-clause-allowed c = append_flush_allowed

pub returns-clause-refused : goal.returns-clause-refused
returns-clause-refused c = append_flush_refused
