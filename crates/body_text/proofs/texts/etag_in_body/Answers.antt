use Rattle.std.proofs.Common.{IsUtf8, sym, subst}
use Rattle.body_text.proofs.AsciiLemmas.{hex16_utf8}
use Rattle.body_text.proofs.texts.etag_in_body.Goals as goal

pub text_of-requires : goal.text_of-requires
text_of-requires c = subst IsUtf8 (sym c.write_hex16.ensures) (hex16_utf8 c.args.number)
