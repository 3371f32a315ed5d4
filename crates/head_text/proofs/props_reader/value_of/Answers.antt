use Rattle.head_text.proofs.PropertyLemmas.{said_value, no_value}
use Rattle.head_text.proofs.props_reader.value_of.Goals as goal

pub returns-in-Ok : goal.returns-in-Ok
returns-in-Ok c = said_value c.args.text.now c.in-Ok.value.items c.in-Ok.ensures.ok c.in-Ok.ensures.bytes

pub returns-in-Err-DecodeError : goal.returns-in-Err-DecodeError
returns-in-Err-DecodeError c =
    let failed = rw c.in-Err-DecodeError.field-0-is at c.in-Err-DecodeError.ensures.err in
    no_value c.args.text.now _ failed
