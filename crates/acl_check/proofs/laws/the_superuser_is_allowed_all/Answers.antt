use Rattle.acl_check.proofs.Checks.{superuser_decides}
use Rattle.acl_check.proofs.laws.the_superuser_is_allowed_all.Goals as goal

pub returns : goal.returns
returns c = superuser_decides
