use Rattle.acl_check.proofs.Inherited.{users_kept, groups_kept, no_more}
use Rattle.acl_check.proofs.laws.a_default_list_is_passed_on.Goals as goal

pub returns-clause-users : goal.returns-clause-users
returns-clause-users c = users_kept

pub returns-clause-groups : goal.returns-clause-groups
returns-clause-groups c = groups_kept

pub returns-clause-no_more : goal.returns-clause-no_more
returns-clause-no_more c = no_more
