use Rattle.std.proofs.Common.{◌++◌, IsUtf8, sym, ap, subst, ◌∙◌}
use Rattle.acl_text.specs.AclWriting.{permissions_text}
use Rattle.body_text.proofs.AsciiLemmas.{permissions_utf8}
use Rattle.body_text.proofs.texts.permissions_in_body.Goals as goal

pub text_of-requires : goal.text_of-requires
text_of-requires c =
    let written = c.in_ok-write_permissions.ensures.text ∙ ap (λ t. t ++ permissions_text c.args.sticky c.args.access.now) c.new-text.ensures.items in
    subst IsUtf8 (sym (c.as_slice.ensures.value ∙ written)) (permissions_utf8 c.args.sticky c.args.access.now)
