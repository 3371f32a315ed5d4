use Rattle.acl_check.proofs.Checks.{named_user_allowed}
use Rattle.acl_check.proofs.laws.the_mask_limits_a_named_user.Goals as goal

pub returns : goal.returns
returns c = named_user_allowed
