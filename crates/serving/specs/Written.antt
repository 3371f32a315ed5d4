-- What reaches a sink.
use Rattle.std.specs.Prelude.{◌≡◌, ◌≢◌, ℕ, List, [], ◌++◌, Option, Result, Ok, Err}
use Rattle.std.specs.Io.KnownBytes.{Appends}
use Rattle.conn_io.specs.Causes.{Rose}
use Rattle.serving.specs.declared.last.LastStop.{LastStop}
use Rattle.serving.specs.declared.last.LastStop.TheVariants as stop

-- the sink took a front of the bytes, and not the last ones
pub record BreaksOff (out out' : Option (List ℕ)) (bytes : List ℕ) : Type 0 where
  pub front : List ℕ
  pub missing : List ℕ
  pub whole : bytes ≡ front ++ missing
  pub some_missing : missing ≢ []
  pub appends : Appends out out' front

-- all the bytes at `Ok`, not all of them else
abbrev pub WritesAll : {E : Type 0} → Option (List ℕ) → Option (List ℕ) → List ℕ → Result (Unit {0}) E → Type 0
WritesAll out out' bytes (Ok done) = Appends out out' bytes
WritesAll out out' bytes (Err e) = BreaksOff out out' bytes

-- a last reply is out whole; or not, for a failed write; or nothing is, for want of memory
abbrev pub WritesLast : Option (List ℕ) → Option (List ℕ) → List ℕ → Result (Unit {0}) LastStop → Type 0
WritesLast out out' text (Ok done) = Appends out out' text
WritesLast out out' text (Err stop.WriteFault) = BreaksOff out out' text
WritesLast out out' text (Err stop.NoMemory) = Appends out out' []

-- the sink's count rose where a write failed, and is as before else
abbrev pub LastCounts : ℕ → ℕ → Result (Unit {0}) LastStop → Type 0
LastCounts before now (Ok done) = now ≡ before
LastCounts before now (Err stop.WriteFault) = Rose before now
LastCounts before now (Err stop.NoMemory) = now ≡ before
