use Rattle.file_data.proofs.OrderLemmas.{staged_again}
use Rattle.file_data.proofs.laws.a_second_piece_replaces_the_first.Goals as goal

pub returns : goal.returns
returns c = staged_again
