use Rattle.std.proofs.Common.{sym, ◌∙◌}
use Rattle.acl_text.proofs.ModeLemmas.{perm_in_is, perm_in-text}
use Rattle.acl_text.proofs.perm.read_perm.Goals as goal

pub returns-clause-spelled : goal.returns-clause-spelled
returns-clause-spelled c = λ p. (λ e. perm_in_is c.args.text.now p (sym c.perm_in.ensures ∙ e), λ h. c.perm_in.ensures ∙ perm_in-text c.args.text.now p h)
