-- Checks in their order: the first that fails decides.
use Rattle.std.specs.Prelude.{◌≡◌, ℕ, List, Option, None, Some, Result, Ok, Err}
use Rattle.namespace_model.specs.declared.code.Code.{Code}
use Rattle.op_decode.specs.declared.stop.Stop.{Stop}
use Rattle.op_decode.specs.declared.stop.Stop.TheVariants as stop

-- what comes after a value that was read, and else the code for which it was not
abbrev pub after : {A B : Type 0} → Result A Code → (A → Result B Code) → Result B Code
after (Ok value) next = next value
after (Err code) next = Err code

-- a value that is there, and else this code
abbrev pub or_refused : {A : Type 0} → Code → Option A → Result A Code
or_refused code None = Err code
or_refused code (Some value) = Ok value

-- a text that may be missing is read where it is there
abbrev pub if_given : {A : Type 0} → (List ℕ → Result A Code) → Option (List ℕ) → Result (Option A) Code
if_given read None = Ok None
if_given read (Some text) = after (read text) (λ value. Ok (Some value))

-- a text has to be there, and is read
abbrev pub needed : {A : Type 0} → Code → (List ℕ → Result A Code) → Option (List ℕ) → Result A Code
needed missing read None = Err missing
needed missing read (Some text) = read text

-- ---- how an answer yields to want of memory

abbrev pub Stops : {A : Type 0} → Stop → Result A Code → Type 0
Stops (stop.Refused code) answer = answer ≡ Err code
Stops stop.NoMemory answer = Unit {0}

-- a result is this answer, unless memory ran out
abbrev pub Answers : {A : Type 0} → Result A Stop → Result A Code → Type 0
Answers (Ok value) answer = answer ≡ Ok value
Answers (Err stop) answer = Stops stop answer
