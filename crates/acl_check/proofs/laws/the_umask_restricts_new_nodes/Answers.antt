use Rattle.acl_check.proofs.Inherited.{base_open}
use Rattle.acl_check.proofs.laws.the_umask_restricts_new_nodes.Goals as goal

pub returns-clause-access : goal.returns-clause-access
returns-clause-access c = base_open
