use Rattle.acl_text.proofs.ChangeLemmas.{modify_access_stays, modify_default_stays, set_default_stays, remove_access_stays, remove_default_stays}
use Rattle.acl_text.proofs.laws.a_scope_that_is_not_named_stays.Goals as goal

pub returns-clause-modify_access : goal.returns-clause-modify_access
returns-clause-modify_access c = modify_access_stays

pub returns-clause-modify_default : goal.returns-clause-modify_default
returns-clause-modify_default c = modify_default_stays

pub returns-clause-set_default : goal.returns-clause-set_default
returns-clause-set_default c = set_default_stays

pub returns-clause-remove_access : goal.returns-clause-remove_access
returns-clause-remove_access c = remove_access_stays

pub returns-clause-remove_default : goal.returns-clause-remove_default
returns-clause-remove_default c = remove_default_stays
