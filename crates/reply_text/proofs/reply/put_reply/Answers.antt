use Rattle.std.proofs.Common.{refl}
use Rattle.reply_text.specs.Lines.{field_lines}
use Rattle.reply_text.specs.ReplyText.{start_lines, end_lines, body_text, reply_text}
use Rattle.reply_text.proofs.FieldLemmas.{spells_whole}
use Rattle.reply_text.proofs.reply.put_reply.Goals as goal

pub returns-clause-spelled : goal.returns-clause-spelled
unfolding reply_text
returns-clause-spelled c =
    spells_whole c.in_ok-slots.slots c.args.out.now.items c.open_lines.new.out.items c.extend_from_slice.new.self.items
    (end_lines c.args.reply.now c.args.head) (body_text c.args.reply.now c.args.head)
    (λ n. start_lines c.args.reply.now.status c.args.moment n) (λ n. field_lines n c.args.reply.now.fields)
    (rw (← c.in_ok-reserve.ensures.items) c.in_ok-slots.ensures.spelled)
    (rw (c.in_ok-extend_from_slice.ensures.items, c.in_ok-put_end_lines.ensures.text, c.body_text-body.ensures) refl)
