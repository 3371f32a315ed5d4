use Rattle.std.proofs.Common.{append_assoc, refl}
use Rattle.reply_text.specs.Lines.{status_line, status_and_phrase}
use Rattle.reply_text.proofs.lines.put_status_line.Goals as goal

pub returns-clause-text : goal.returns-clause-text
unfolding status_line status_and_phrase
returns-clause-text c =
    rw (c.in_ok-extend_from_slice-2.ensures.items, c.in_ok-put_status.ensures.text, c.in_ok-extend_from_slice.ensures.items)
    (simp append_assoc refl)
