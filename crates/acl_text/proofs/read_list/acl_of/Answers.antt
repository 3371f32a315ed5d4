use Rattle.acl_text.proofs.TextLemmas.{acl_text_writable}
use Rattle.acl_text.proofs.read_list.acl_of.Goals as goal

pub invariant_of-result : goal.invariant_of-result
invariant_of-result c = acl_text_writable c.args.text.now c.in_ok-list_of.field-0.items c.in_ok-list_of.ensures.read
