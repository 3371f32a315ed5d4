use Rattle.acl_check.proofs.Checks.{denial_lacks, owner_denied, named_user_denied, nobody_denied}
use Rattle.acl_check.proofs.laws.a_denial_says_what_is_lacking.Goals as goal

pub returns-clause-rule : goal.returns-clause-rule
returns-clause-rule c = λ acl owner group caller want refusal denied. (denial_lacks acl owner group caller want refusal denied).0

pub returns-clause-lacks : goal.returns-clause-lacks
returns-clause-lacks c = λ acl owner group caller want refusal denied. (denial_lacks acl owner group caller want refusal denied).1

pub returns-clause-owner : goal.returns-clause-owner
returns-clause-owner c = owner_denied

pub returns-clause-named_user : goal.returns-clause-named_user
returns-clause-named_user c = named_user_denied

pub returns-clause-other : goal.returns-clause-other
returns-clause-other c = nobody_denied
