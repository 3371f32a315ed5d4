use Rattle.path_text.proofs.TargetLemmas.{target_is_spelled, spelled_target_is_read}
use Rattle.path_text.proofs.laws.a_target_is_read_exactly_where_it_spells_a_path_and_a_query.Goals as goal

pub returns : goal.returns
returns c = λ target path query. (λ e. target_is_spelled target path query e, λ is. spelled_target_is_read target path query is)
