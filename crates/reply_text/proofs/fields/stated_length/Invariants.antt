use Rattle.std.proofs.Common.{◌≡◌, drop}
use Rattle.reply_text.specs.ReplyText.{stated_length}
use Rattle.reply_text.proofs.fields.stated_length.Given as goal

abbrev pub invariant-loop-field : goal.invariant-loop-field
invariant-loop-field l = stated_length (drop l.field-index l.fields) ≡ stated_length l.fields
