-- How a connection ends at a fault of the reader, and at a request that is not taken.
use Rattle.std.specs.Prelude.{◌≡◌, ℕ, List, [], Option}
use Rattle.std.specs.Io.KnownBytes.{Appends}
use Rattle.http_front.specs.declared.answers.FrontFault.{FrontFault}
use Rattle.http_front.specs.declared.answers.FrontFault.TheVariants as fault
use Rattle.serving.specs.declared.end.End.{End}
use Rattle.serving.specs.declared.end.End.TheVariants as end
use Rattle.serving.specs.declared.refusal.SubmitRefusal.{SubmitRefusal}
use Rattle.serving.specs.declared.refusal.SubmitRefusal.TheVariants as refusal
use Rattle.serving.specs.Ends.{last_text}
use Rattle.serving.specs.Written.{BreaksOff}

-- Bytes that are no request get a last reply, unless there is no memory for it; a last reply that does not go out whole is a failed
-- write. At every other fault nothing is written.
abbrev pub RefusesBytes : Option (List ℕ) → Option (List ℕ) → FrontFault → End → Type 0
RefusesBytes out out' (fault.Bad bad) (end.BadRequest answered) = (answered ≡ bad) × Appends out out' (last_text (end.BadRequest bad))
RefusesBytes out out' (fault.Bad bad) end.WriteFault = BreaksOff out out' (last_text (end.BadRequest bad))
RefusesBytes out out' (fault.Bad bad) end.NoMemory = Appends out out' []
RefusesBytes out out' (fault.CutShort count) (end.CutShort cut) = (cut ≡ count) × Appends out out' []
RefusesBytes out out' fault.ReadFault end.ReadFault = Appends out out' []
RefusesBytes out out' fault.NoMemory end.NoMemory = Appends out out' []
RefusesBytes out out' fault end = ⊥

-- A request for which the journal is full gets a last reply in the same way. For want of memory nothing is written.
abbrev pub RefusesRequest : Option (List ℕ) → Option (List ℕ) → SubmitRefusal → End → Type 0
RefusesRequest out out' (refusal.Full kind) (end.Busy answered) = (answered ≡ kind) × Appends out out' (last_text (end.Busy kind))
RefusesRequest out out' (refusal.Full kind) end.WriteFault = BreaksOff out out' (last_text (end.Busy kind))
RefusesRequest out out' (refusal.Full kind) end.NoMemory = Appends out out' []
RefusesRequest out out' refusal.NoMemory end.NoMemory = Appends out out' []
RefusesRequest out out' refusal end = ⊥
