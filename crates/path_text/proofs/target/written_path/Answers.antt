use Rattle.std.proofs.Common.{ap, sym, ◌∙◌}
use Rattle.std.specs.Option.{option_copied}
use Rattle.path_text.proofs.EscapeLemmas.{written_account, written_parts}
use Rattle.path_text.proofs.target.written_path.Goals as goal

pub returns-in_default : goal.returns-in_default
returns-in_default c =
    c.in_ok-text.ensures.ok ∙ written_account c.args.path.now (ap option_copied (sym c.in_default.is) ∙ c.fs.ensures)

pub returns : goal.returns
returns c =
    rw (c.in_ok-push_escaped_names.ensures, c.names.ensures, c.in_ok-push_escaped.ensures, c.bytes.ensures.value, c.in_ok-text.ensures.ok) (written_parts c.args.path.now c.in-Some.fs.now c.in-Some.ensures)
