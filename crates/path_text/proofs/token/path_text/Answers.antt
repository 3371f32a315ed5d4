use Rattle.std.proofs.Common.{ap, sym, ◌∙◌}
use Rattle.std.specs.Option.{option_copied}
use Rattle.path_text.proofs.TokenLemmas.{text_of_account, text_of_parts}
use Rattle.path_text.proofs.token.path_text.Goals as goal

pub returns-in_default : goal.returns-in_default
returns-in_default c =
    rw (c.in_ok-push.ensures.items, c.new-text.ensures.items) (text_of_account c.args.path.now (ap option_copied (sym c.in_default.is) ∙ c.fs.ensures))

pub returns : goal.returns
returns c =
    rw (c.in_ok-push_names.ensures, c.names.ensures, c.in_ok-extend_from_slice.ensures.items, c.in_ok-push.ensures.items, c.bytes.ensures.value, c.new-text.ensures.items) (text_of_parts c.args.path.now c.in-Some.fs.now c.in-Some.ensures)
