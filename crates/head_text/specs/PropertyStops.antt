-- How an answer on properties yields to want of memory.
use Rattle.std.specs.Prelude.{◌≡◌, Result, Ok, Err}
use Rattle.head_text.specs.declared.props_fault.PropsFault.{PropsFault}
use Rattle.head_text.specs.declared.props_fault.PropsStop.{PropsStop}
use Rattle.head_text.specs.declared.props_fault.PropsStop.TheVariants as stop

-- a fault is the given answer's, unless memory ran out
abbrev pub Stops : {T : Type 0} → PropsStop → Result T PropsFault → Type 0
Stops (stop.Fault f) answer = answer ≡ Err f
Stops stop.NoMemory answer = Unit {0}

-- an answer is the given one, where a value is seen by the function, unless memory ran out
abbrev pub AnswersBy : {S T : Type 0} → (S → T) → Result S PropsStop → Result T PropsFault → Type 0
AnswersBy seen (Ok x) answer = answer ≡ Ok (seen x)
AnswersBy seen (Err e) answer = Stops e answer

abbrev pub Answers : {T : Type 0} → Result T PropsStop → Result T PropsFault → Type 0
Answers result answer = AnswersBy (λ x. x) result answer
