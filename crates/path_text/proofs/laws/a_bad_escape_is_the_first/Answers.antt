use Rattle.path_text.proofs.LawLemmas.{first_bad_escape}
use Rattle.path_text.proofs.laws.a_bad_escape_is_the_first.Goals as goal

pub returns : goal.returns
returns c = first_bad_escape
