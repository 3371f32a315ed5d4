use Rattle.acl_text.proofs.TextLemmas.{remove_text_whose}
use Rattle.acl_text.proofs.read_list.remove_list_of.Goals as goal

pub invariant_of-result : goal.invariant_of-result
invariant_of-result c = remove_text_whose c.args.text.now c.in_ok-list_of.field-0.items c.in_ok-list_of.ensures.read
