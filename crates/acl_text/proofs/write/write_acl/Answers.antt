use Rattle.acl_text.proofs.PrintLemmas.{printed_is_read}
use Rattle.acl_text.proofs.LawLemmas.{set_own}
use Rattle.acl_text.proofs.write.write_acl.Goals as goal

pub returns-in_err-text-clause-read_back : goal.returns-in_err-text-clause-read_back
returns-in_err-text-clause-read_back c = printed_is_read c.args.pair.now c.in_err-text.ensures.acl

pub returns-in_err-text-clause-set_back : goal.returns-in_err-text-clause-set_back
returns-in_err-text-clause-set_back c = set_own c.args.pair.now c.in_err-text.ensures.acl

pub returns-clause-read_back : goal.returns-clause-read_back
returns-clause-read_back c = printed_is_read c.args.pair.now c.in_ok-text.ensures.acl

pub returns-clause-set_back : goal.returns-clause-set_back
returns-clause-set_back c = set_own c.args.pair.now c.in_ok-text.ensures.acl
