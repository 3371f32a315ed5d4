use Rattle.std.proofs.Common.{append_assoc, refl}
use Rattle.reply_text.specs.ReplyText.{code_lines}
use Rattle.reply_text.proofs.refusal.put_code_lines.Goals as goal

pub returns-clause-text : goal.returns-clause-text
unfolding code_lines
returns-clause-text c =
    rw (c.in_ok-put_line-3.ensures.text, c.in_ok-put_line-2.ensures.text, c.in-Some.is, c.if-bare.false, c.as_bytes-2.ensures.value, c.name-2.ensures)
    (simp append_assoc refl)
