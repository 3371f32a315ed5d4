-- A list of events.
use Rattle.std.specs.Prelude.{◌≡◌, ◌⊎◌, List, [], ◌∷◌}
use Rattle.lock_core.specs.declared.machine.Clause.{Clause}
use Rattle.lock_core.specs.declared.machine.Event.{Event}
use Rattle.lock_core.specs.declared.machine.StepStop.{StepStop}
use Rattle.lock_core.specs.declared.machine.StepStop.TheVariants.{NotAllowed, NoMemory}
use Rattle.lock_core.specs.Clauses.{FirstBroken}
use Rattle.lock_core.specs.Object.{Object}
use Rattle.lock_core.specs.Machine.{LockState, asked, IsAllowed, stepped}

module _ {T E R P W : Type 0} (o : Object T E R) where
  -- each event is allowed at its place, and the last state is this one
  abbrev pub Runs : LockState T E R → List (Event P E R T W) → LockState T E R → Type 0
  Runs m [] last = last ≡ m
  Runs m (e ∷ es) last = IsAllowed o m e × Runs (stepped o m e) es last

  -- some event isn't allowed at its place, and every event before it is; it breaks this clause first
  abbrev pub BreaksFirst : LockState T E R → List (Event P E R T W) → Clause → Type 0
  BreaksFirst m [] c = ⊥
  BreaksFirst m (e ∷ es) c = FirstBroken (asked o m e) c ⊎ (IsAllowed o m e × BreaksFirst (stepped o m e) es c)

  abbrev pub IsRunStop : LockState T E R → List (Event P E R T W) → StepStop → Type 0
  IsRunStop m es (NotAllowed c) = BreaksFirst m es c
  IsRunStop m es NoMemory = Unit {0}
