-- Plans: how each of the 64 stripes is to be held.
use Rattle.std.specs.Prelude.{◌≡◌, ℕ, ◌<◌, List, slice_get, replicate, sum_by}
use Rattle.std.specs.Prelude as std
use Rattle.lock_core.specs.declared.object.LockMode.{LockMode}
use Rattle.lock_core.specs.declared.object.LockMode.TheVariants as mode
use Rattle.lock_core.specs.declared.machine.Hold.{Hold}
use Rattle.lock_core.specs.Machine.{hold_at, HeldIn}

-- no stripe is held
abbrev pub no_plan : List LockMode
no_plan = replicate 64 mode.None

abbrev pub width : LockMode → ℕ
width mode.None = 0
width mode.Shared = 1
width mode.Exclusive = 2

-- the number of stripes held shared, and twice that of those held exclusively
abbrev pub wide_of : List LockMode → ℕ
wide_of modes = sum_by width modes

-- each stripe below n is held as the plan says
abbrev pub AreHeld : {T : Type 0} → List LockMode → ℕ → List (Hold T) → Type 0
AreHeld modes n holds = (k : ℕ) (m : LockMode) → k < n → slice_get modes k ≡ std.Some m → HeldIn m (hold_at holds k)
