use Rattle.file_data.proofs.OrderLemmas.{length_new, read_new, read_old}
use Rattle.file_data.proofs.laws.what_was_flushed_is_read.Goals as goal

pub returns-clause-length : goal.returns-clause-length
returns-clause-length c = length_new

pub returns-clause-new : goal.returns-clause-new
returns-clause-new c = read_new

pub returns-clause-old : goal.returns-clause-old
returns-clause-old c = read_old
