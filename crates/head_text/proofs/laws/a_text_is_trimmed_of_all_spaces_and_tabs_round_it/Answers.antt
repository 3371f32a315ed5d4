use Rattle.head_text.proofs.TrimLemmas.{trimmed_is}
use Rattle.head_text.proofs.laws.a_text_is_trimmed_of_all_spaces_and_tabs_round_it.Goals as goal

pub returns : goal.returns
returns c = trimmed_is
