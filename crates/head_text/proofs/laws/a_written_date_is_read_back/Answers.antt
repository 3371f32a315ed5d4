use Rattle.head_text.proofs.Dates.{http_date_is_read}
use Rattle.head_text.proofs.laws.a_written_date_is_read_back.Goals as goal

pub returns : goal.returns
returns c = http_date_is_read
