use Rattle.acl_check.proofs.RightsLemmas.{sticky_is}
use Rattle.acl_check.proofs.laws.a_sticky_directory_guards_its_children.Goals as goal

pub returns-clause-sticky : goal.returns-clause-sticky
returns-clause-sticky c = sticky_is
