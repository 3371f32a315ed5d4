use Rattle.acl_text.proofs.ChangeLemmas.{modify_access_says, modify_default_says, set_access_says, set_default_says, modify_keeps}
use Rattle.acl_text.proofs.laws.who_is_named_has_what_is_given.Goals as goal

pub returns-clause-modify_access : goal.returns-clause-modify_access
returns-clause-modify_access c = modify_access_says

pub returns-clause-modify_default : goal.returns-clause-modify_default
returns-clause-modify_default c = modify_default_says

pub returns-clause-set_access : goal.returns-clause-set_access
returns-clause-set_access c = set_access_says

pub returns-clause-set_default : goal.returns-clause-set_default
returns-clause-set_default c = set_default_says

pub returns-clause-rest : goal.returns-clause-rest
returns-clause-rest c = modify_keeps
