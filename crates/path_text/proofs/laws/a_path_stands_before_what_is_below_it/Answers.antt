use Rattle.path_text.proofs.LawLemmas.{stands_before}
use Rattle.path_text.proofs.laws.a_path_stands_before_what_is_below_it.Goals as goal

pub returns : goal.returns
returns c = stands_before
