use Rattle.std.proofs.Common.{◌/◌, IsUtf8, sym, subst, arith}
use Rattle.body_text.proofs.AsciiLemmas.{date_utf8}
use Rattle.body_text.proofs.texts.date_in_body.Goals as goal

pub text_of-requires : goal.text_of-requires
text_of-requires c = subst IsUtf8 (sym c.date_text.ensures) (date_utf8 (c.min.result / 1000) (omega (arith, c.min.ensures)))
