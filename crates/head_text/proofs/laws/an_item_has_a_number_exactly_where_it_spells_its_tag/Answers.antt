use Rattle.head_text.proofs.TagTextLemmas.{item_law}
use Rattle.head_text.proofs.laws.an_item_has_a_number_exactly_where_it_spells_its_tag.Goals as goal

pub returns : goal.returns
returns c = item_law
