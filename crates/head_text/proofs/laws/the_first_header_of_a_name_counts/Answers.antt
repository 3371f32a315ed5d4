use Rattle.head_text.proofs.HeaderLemmas.{first_counts, none_is_found}
use Rattle.head_text.proofs.laws.the_first_header_of_a_name_counts.Goals as goal

pub returns-clause-first : goal.returns-clause-first
returns-clause-first c = first_counts

pub returns-clause-none : goal.returns-clause-none
returns-clause-none c = none_is_found
