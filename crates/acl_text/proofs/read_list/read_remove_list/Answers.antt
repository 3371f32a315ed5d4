use Rattle.acl_text.specs.AclTexts.{remove_list_of}
use Rattle.acl_text.proofs.TextLemmas.{fault_is, remove_text_fault, remove_text_refused, ok_is, answers_along, remove_text_is, remove_text_only}
use Rattle.acl_text.proofs.read_list.read_remove_list.Goals as goal

pub returns-clause-found : goal.returns-clause-found
returns-clause-found c = ok_is _ (remove_list_of c.args.text.now) _ c.remove_list_of.ensures (remove_text_is c.args.text.now)

pub returns-clause-only : goal.returns-clause-only
returns-clause-only c = λ es h. answers_along _ (remove_list_of c.args.text.now) _ c.remove_list_of.ensures (remove_text_only c.args.text.now es h)

pub returns-clause-fault : goal.returns-clause-fault
returns-clause-fault c = λ f e. fault_is _ _ (remove_list_of c.args.text.now) _ c.remove_list_of.ensures (remove_text_fault c.args.text.now) f e

pub returns-clause-refused : goal.returns-clause-refused
returns-clause-refused c = λ f h. answers_along _ (remove_list_of c.args.text.now) _ c.remove_list_of.ensures (remove_text_refused c.args.text.now f h)
