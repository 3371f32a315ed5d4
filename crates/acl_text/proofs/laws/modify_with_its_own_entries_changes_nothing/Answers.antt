use Rattle.acl_text.proofs.LawLemmas.{modify_own}
use Rattle.acl_text.proofs.laws.modify_with_its_own_entries_changes_nothing.Goals as goal

pub returns : goal.returns
returns c = modify_own
