use Rattle.file_data.proofs.TroubleLemmas.{flush_allowed}
use Rattle.file_data.proofs.laws.a_flush_is_allowed_where_the_pieces_cover.Goals as goal

pub returns : goal.returns
returns c = flush_allowed
