use Rattle.acl_text.specs.AclChanges.{acl_modify}
use Rattle.acl_text.proofs.TextLemmas.{answers_along, fault_is}
use Rattle.acl_text.proofs.FaultLemmas.{modify_fault, modify_refused}
use Rattle.acl_text.proofs.change.modify.Goals as goal

pub returns-clause-fault : goal.returns-clause-fault
returns-clause-fault c = λ f e. fault_is _ _ (acl_modify c.args.pair.now c.args.list.now) _ c.modify_pair.ensures (modify_fault c.args.pair.now c.args.list.now) f e

pub returns-clause-refused : goal.returns-clause-refused
returns-clause-refused c = λ f h. answers_along _ (acl_modify c.args.pair.now c.args.list.now) _ c.modify_pair.ensures (modify_refused c.args.pair.now c.args.list.now f h)
