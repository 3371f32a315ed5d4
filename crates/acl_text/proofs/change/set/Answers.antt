use Rattle.acl_text.specs.AclChanges.{acl_set}
use Rattle.acl_text.proofs.TextLemmas.{answers_along, fault_is}
use Rattle.acl_text.proofs.FaultLemmas.{set_fault, set_refused}
use Rattle.acl_text.proofs.change.set.Goals as goal

pub returns-clause-fault : goal.returns-clause-fault
returns-clause-fault c = λ f e. fault_is _ _ (acl_set c.args.list.now) _ c.set_pair.ensures (set_fault c.args.list.now) f e

pub returns-clause-refused : goal.returns-clause-refused
returns-clause-refused c = λ f h. answers_along _ (acl_set c.args.list.now) _ c.set_pair.ensures (set_refused c.args.list.now f h)
