use Rattle.acl_text.proofs.ChangeLemmas.{mode_is_shown}
use Rattle.acl_text.proofs.laws.the_mode_that_is_set_is_shown.Goals as goal

pub returns : goal.returns
returns c = mode_is_shown
