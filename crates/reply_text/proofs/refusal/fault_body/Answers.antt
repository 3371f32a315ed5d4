use Rattle.std.proofs.Common.{refl}
use Rattle.serde_json.proofs.FreeTexts.{text_of_value}
use Rattle.namespace_model.specs.Codes.{code_text, message_text}
use Rattle.reply_text.specs.ReplyText.{fault_data, fault_body}
use Rattle.reply_text.proofs.refusal.fault_body.Goals as goal

pub returns-in-Ok : goal.returns-in-Ok
unfolding fault_body
returns-in-Ok c =
    let events = c.in-Ok.ensures.events in
    text_of_value (fault_data (code_text c.args.code) (message_text c.args.code)) events.0 c.in-Ok.text.items events.1 events.2 refl
