use Rattle.acl_check.proofs.RightsLemmas.{lists_is, owner_is, group_is}
use Rattle.acl_check.proofs.laws.owners_name_groups_to_which_they_belong.Goals as goal

pub returns-clause-lists : goal.returns-clause-lists
returns-clause-lists c = lists_is

pub returns-clause-owner : goal.returns-clause-owner
returns-clause-owner c = owner_is

pub returns-clause-group : goal.returns-clause-group
returns-clause-group c = group_is
