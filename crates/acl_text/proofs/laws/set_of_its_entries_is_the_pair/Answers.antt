use Rattle.acl_text.proofs.LawLemmas.{set_own}
use Rattle.acl_text.proofs.laws.set_of_its_entries_is_the_pair.Goals as goal

pub returns : goal.returns
returns c = set_own
