use Rattle.acl_text.proofs.LawLemmas.{removed_base}
use Rattle.acl_text.proofs.laws.remove_of_all_leaves_the_base.Goals as goal

pub returns : goal.returns
returns c = removed_base
