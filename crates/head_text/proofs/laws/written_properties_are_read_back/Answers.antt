use Rattle.head_text.proofs.PropertyWriting.{written_is_text, written_is_read}
use Rattle.head_text.proofs.laws.written_properties_are_read_back.Goals as goal

pub returns-clause-text : goal.returns-clause-text
returns-clause-text c = written_is_text

pub returns-clause-read : goal.returns-clause-read
returns-clause-read c = written_is_read
