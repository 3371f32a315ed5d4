use Rattle.std.proofs.Common.{◌++◌}
use Rattle.reply_text.specs.ReplyText.{start_lines}
use Rattle.reply_text.proofs.FieldLemmas.{SpellsFirst}
use Rattle.reply_text.proofs.reply.open_lines.Given as goal

abbrev pub invariant-loop-field : goal.invariant-loop-field
invariant-loop-field l = SpellsFirst (λ n. l.fn.out.items ++ start_lines l.reply.status l.moment n) l.field-items l.field-index l.slots l.out.items
