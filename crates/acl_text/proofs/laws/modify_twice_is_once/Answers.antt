use Rattle.acl_text.proofs.LawLemmas.{modify_twice}
use Rattle.acl_text.proofs.laws.modify_twice_is_once.Goals as goal

pub returns : goal.returns
returns c = modify_twice
