use Rattle.acl_check.proofs.Checks.{owner_allowed, owner_alone}
use Rattle.acl_check.proofs.laws.the_mask_does_not_limit_the_owner.Goals as goal

pub returns-clause-entry : goal.returns-clause-entry
returns-clause-entry c = owner_allowed

pub returns-clause-alone : goal.returns-clause-alone
returns-clause-alone c = owner_alone
