-- How an answer yields to want of memory.
use Rattle.std.specs.Prelude.{◌≡◌, Result, Ok, Err}
use Rattle.acl_text.specs.declared.acl.AclFault.{AclFault}
use Rattle.acl_text.specs.declared.acl.AclStop.{AclStop}
use Rattle.acl_text.specs.declared.acl.AclStop.TheVariants as stop

-- an answer is the given one, unless memory ran out
abbrev pub Stops : {T : Type 0} → AclStop → Result T AclFault → Type 0
Stops (stop.Fault f) answer = answer ≡ Err f
Stops stop.NoMemory answer = Unit {0}

abbrev pub Answers : {T : Type 0} → Result T AclStop → Result T AclFault → Type 0
Answers (Ok x) answer = answer ≡ Ok x
Answers (Err e) answer = Stops e answer
