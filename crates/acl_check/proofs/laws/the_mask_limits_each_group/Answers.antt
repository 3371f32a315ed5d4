use Rattle.acl_check.proofs.Checks.{nobody_allowed, nobody_unmasked}
use Rattle.acl_check.proofs.laws.the_mask_limits_each_group.Goals as goal

pub returns-clause-with_mask : goal.returns-clause-with_mask
returns-clause-with_mask c = nobody_allowed

pub returns-clause-without_mask : goal.returns-clause-without_mask
returns-clause-without_mask c = nobody_unmasked
