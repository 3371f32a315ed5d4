use Rattle.std.proofs.Common.{append_assoc, refl}
use Rattle.reply_text.specs.LastReply.{last_reply_text}
use Rattle.reply_text.proofs.last.put_last_reply.Goals as goal

pub returns-clause-text : goal.returns-clause-text
unfolding last_reply_text
returns-clause-text c =
    rw (c.in_ok-extend_from_slice.ensures.items, c.in_ok-put_line-3.ensures.text, c.in_ok-put_line-2.ensures.text, c.in_ok-put_line.ensures.text, c.in_ok-put_version_line.ensures.text, c.in_ok-put_open_number_line.ensures.text, c.in_ok-put_status_line.ensures.text, c.in_ok-reserve.ensures.items, c.status.ensures, c.code.ensures)
    (simp append_assoc refl)
