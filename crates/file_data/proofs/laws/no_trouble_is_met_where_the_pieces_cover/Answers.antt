use Rattle.file_data.proofs.TroubleLemmas.{no_trouble}
use Rattle.file_data.proofs.laws.no_trouble_is_met_where_the_pieces_cover.Goals as goal

pub returns : goal.returns
returns c = no_trouble
