-- What an event asks for: clauses in an order, each with what it says.
use Rattle.std.specs.Prelude.{◌≡◌, ◌⊎◌}
use Rattle.lock_core.specs.declared.machine.Clause.{Clause}
use Rattle.lock_core.specs.declared.machine.StepStop.{StepStop}
use Rattle.lock_core.specs.declared.machine.StepStop.TheVariants.{NotAllowed, NoMemory}

pub data Asked : Type 1 where
  done : Asked
  ask : Clause → Type 0 → Asked → Asked

-- every clause holds
abbrev pub AllHold : Asked → Type 0
AllHold done = Unit {0}
AllHold (ask c p rest) = p × AllHold rest

-- this clause doesn't hold, and every clause before it does
abbrev pub FirstBroken : Asked → Clause → Type 0
FirstBroken done c = ⊥
FirstBroken (ask d p rest) c = ((p → ⊥) × (c ≡ d)) ⊎ (p × FirstBroken rest c)

-- why nothing was done: this clause is the first that doesn't hold. Want of memory may come at any time
abbrev pub IsStop : Asked → StepStop → Type 0
IsStop asked (NotAllowed c) = FirstBroken asked c
IsStop asked NoMemory = Unit {0}
