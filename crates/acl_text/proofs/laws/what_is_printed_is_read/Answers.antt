use Rattle.acl_text.proofs.PrintLemmas.{printed_is_read}
use Rattle.acl_text.proofs.laws.what_is_printed_is_read.Goals as goal

pub returns : goal.returns
returns c = printed_is_read
