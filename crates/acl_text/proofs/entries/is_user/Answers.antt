use Rattle.std.proofs.Common.{sym, ◌∙◌}
use Rattle.std.proofs.lemmas.Map.Text.{is_eq-slice_cmp}
use Rattle.acl_text.proofs.entries.is_user.Goals as goal

pub returns-in-User : goal.returns-in-User
returns-in-User c = rw c.in-User.is (c.eq.ensures ∙ sym (is_eq-slice_cmp c.args.id.now c.in-User.user))
