use Rattle.std.specs.List.{slice_split}
use Rattle.head_text.specs.ETags.{is_comma}
use Rattle.head_text.proofs.TagListLemmas.{any_is_star, listed_is_spelled, parts_are}
use Rattle.head_text.proofs.laws.a_number_is_listed_exactly_where_an_item_spells_its_tag.Goals as goal

pub returns-clause-any : goal.returns-clause-any
returns-clause-any c = any_is_star

pub returns-clause-listed : goal.returns-clause-listed
returns-clause-listed c = listed_is_spelled

pub returns-clause-parted : goal.returns-clause-parted
returns-clause-parted c = λ text. (slice_split is_comma text, parts_are text)
