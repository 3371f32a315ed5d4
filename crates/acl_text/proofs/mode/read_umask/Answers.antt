use Rattle.std.proofs.Common.{◌≡◌, IfErr, sym, subst, ◌∙◌}
use Rattle.acl_text.specs.PermTexts.{mode_fault}
use Rattle.acl_text.proofs.ModeLemmas.{umask_fault, umask_is, umask_of-text}
use Rattle.acl_text.proofs.mode.read_umask.Goals as goal

pub returns-clause-spelled : goal.returns-clause-spelled
returns-clause-spelled c = λ bits. (λ e. umask_is c.args.text.now bits (sym c.umask_of.ensures ∙ e), λ h. c.umask_of.ensures ∙ umask_of-text c.args.text.now bits h)

pub returns-clause-fault : goal.returns-clause-fault
returns-clause-fault c = subst (λ r. IfErr r (λ fault. fault ≡ mode_fault c.args.text.now)) (sym c.umask_of.ensures) (umask_fault c.args.text.now)
