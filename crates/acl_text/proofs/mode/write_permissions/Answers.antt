use Rattle.std.proofs.Common.{subst, not}
use Rattle.std.specs.List.{list_any}
use Rattle.acl_text.specs.Whos.{is_base}
use Rattle.acl_text.specs.PermTexts.{AreBits}
use Rattle.acl_text.specs.AclWriting.{access_bits}
use Rattle.acl_text.proofs.ModeLemmas.{printed_is_read}
use Rattle.acl_text.proofs.mode.write_permissions.Goals as goal

pub returns-clause-read_back : goal.returns-clause-read_back
returns-clause-read_back c =
    printed_is_read (access_bits c.args.sticky c.args.access.now) (list_any (λ e. not (is_base e.0)) c.args.access.now)
    (subst AreBits c.mode.ensures.mode c.symbolic-text.ensures.bits)
