use Rattle.acl_text.proofs.ChangeLemmas.{modify_access_mask, modify_default_mask, set_access_mask, set_default_mask, remove_access_mask, remove_default_mask}
use Rattle.acl_text.proofs.laws.the_mask_is_computed.Goals as goal

pub returns-clause-modify_access : goal.returns-clause-modify_access
returns-clause-modify_access c = modify_access_mask

pub returns-clause-modify_default : goal.returns-clause-modify_default
returns-clause-modify_default c = modify_default_mask

pub returns-clause-set_access : goal.returns-clause-set_access
returns-clause-set_access c = set_access_mask

pub returns-clause-set_default : goal.returns-clause-set_default
returns-clause-set_default c = set_default_mask

pub returns-clause-remove_access : goal.returns-clause-remove_access
returns-clause-remove_access c = remove_access_mask

pub returns-clause-remove_default : goal.returns-clause-remove_default
returns-clause-remove_default c = remove_default_mask
