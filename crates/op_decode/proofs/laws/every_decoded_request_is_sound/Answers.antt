use Rattle.op_decode.proofs.SoundLemmas.{decoded_is_sound}
use Rattle.op_decode.proofs.laws.every_decoded_request_is_sound.Goals as goal

pub returns : goal.returns
returns c = decoded_is_sound
