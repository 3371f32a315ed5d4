use Rattle.std.proofs.Common.{IsUtf8, sym, subst}
use Rattle.body_text.proofs.AsciiLemmas.{id_utf8}
use Rattle.body_text.proofs.texts.id_in_body.Goals as goal

pub text_of-requires : goal.text_of-requires
text_of-requires c = subst IsUtf8 (sym c.bytes.ensures.value) (id_utf8 c.args.id.now c.bytes.ensures.id)
