use Rattle.acl_check.proofs.Inherited.{within_mode}
use Rattle.acl_check.proofs.laws.a_new_node_has_no_more_than_its_mode.Goals as goal

pub returns : goal.returns
returns c = within_mode
