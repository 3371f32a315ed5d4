use Rattle.path_text.proofs.GrammarLemmas.{path_is_spelled}
use Rattle.path_text.proofs.ReadLemmas.{spelled_is_read}
use Rattle.path_text.proofs.laws.a_text_is_read_exactly_where_it_spells_a_path.Goals as goal

pub returns : goal.returns
returns c = λ text path. (λ e. path_is_spelled text path e, λ is. spelled_is_read text path is.0 is.1)
