use Rattle.namespace_model.specs.Sound.{IsSound}
use Rattle.op_decode.specs.Decoded.{decoded}
use Rattle.op_decode.proofs.SoundLemmas.{decoded_is_sound, holds_of_value}
use Rattle.op_decode.proofs.steps.decode.Goals as goal

pub returns-clause-sound : goal.returns-clause-sound
returns-clause-sound c =
    holds_of_value IsSound _ (decoded c.args.raw.now) c.request_of.ensures (decoded_is_sound c.args.raw.now)
