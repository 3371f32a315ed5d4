-- What a seat holds while it lets go of some of it, from the highest stripe to the lowest.
use Rattle.std.specs.Prelude.{◌≡◌, ◌≢◌, ℕ, zero, suc, ◌+◌, ◌-◌, ◌<◌, ◌≤◌, List, [], ◌∷◌, ◌++◌, length, slice_get}
use Rattle.std.specs.Prelude as std
use Rattle.lock_core.specs.declared.object.LockMode.{LockMode}
use Rattle.lock_core.specs.declared.object.LockMode.TheVariants as mode
use Rattle.lock_core.specs.declared.machine.Hold.{Hold}
use Rattle.lock_core.specs.declared.machine.Hold.TheVariants.{Free}
use Rattle.lock_core.specs.Object.{Object}
use Rattle.lock_core.specs.Machine.{hold_at, HeldIn, downgraded}
use Rattle.atomic_table.specs.Table.{Me}
use Rattle.path_locks.specs.declared.rule.Slot.{Slot}
use Rattle.path_locks.specs.declared.rule.View.{View}
use Rattle.path_locks.specs.Plays.{IsQuiet}
use Rattle.path_locks.specs.Stands.{Stands}
use Rattle.path_locks.specs.Holding.{with_empty, empties, AreOut, IsReheld}

-- one mode is below another or equal to it
abbrev pub IsBelow : LockMode → LockMode → Type 0
IsBelow mode.None m = Unit {0}
IsBelow mode.Shared mode.None = ⊥
IsBelow mode.Shared mode.Shared = Unit {0}
IsBelow mode.Shared mode.Exclusive = Unit {0}
IsBelow mode.Exclusive mode.None = ⊥
IsBelow mode.Exclusive mode.Shared = ⊥
IsBelow mode.Exclusive mode.Exclusive = Unit {0}

-- a plan is below another one or equal to it
abbrev pub IsWithin : List LockMode → List LockMode → Type 0
IsWithin keep modes = (k : ℕ) (m n : LockMode) → k < 64 → slice_get keep k ≡ std.Some m → slice_get modes k ≡ std.Some n → IsBelow m n

module _ {T : Type 0} where
  -- what is left of a hold in this mode: a stripe that stays held keeps its note
  abbrev pub narrowed : LockMode → Hold T → Hold T
  narrowed mode.None h = Free
  narrowed mode.Shared h = downgraded h
  narrowed mode.Exclusive h = h

  -- of each stripe is left what the plan keeps
  abbrev pub AreNarrowed : List LockMode → List (Hold T) → List (Hold T) → Type 0
  AreNarrowed keep holds holds' = (k : ℕ) (m : LockMode) → k < 64 → slice_get keep k ≡ std.Some m → hold_at holds' k ≡ narrowed m (hold_at holds k)

  -- the same for the stripes from n on, while those below are as they were
  pub record AreNarrowedFrom (n : ℕ) (keep : List LockMode) (holds holds' : List (Hold T)) : Type 0 where
    pub done : (k : ℕ) (m : LockMode) → n ≤ k → k < 64 → slice_get keep k ≡ std.Some m → hold_at holds' k ≡ narrowed m (hold_at holds k)
    pub held : (k : ℕ) (m : LockMode) → n ≤ k → k < 64 → slice_get keep k ≡ std.Some m → HeldIn m (hold_at holds' k)
    pub left : (k : ℕ) → k < n → hold_at holds' k ≡ hold_at holds k

module _ {T E : Type 0} where
  module _ {K : Type 0} where
    -- the slots in hand of so many stripes from n on, the last one first
    abbrev pub span : ℕ → ℕ → List (Hold T) → List (ℕ × Slot T E K)
    span n zero holds = []
    span n (suc c) holds = with_empty (n + c) (hold_at holds (n + c)) (span n c holds)

  -- of one stripe is left what this mode keeps, and the view is else the same
  pub record IsNarrowedAt (s : ℕ) (m : LockMode) (v w : View T E) : Type 0 where
    pub same : IsReheld v w
    pub there : hold_at w.at.holds s ≡ narrowed m (hold_at v.at.holds s)
    pub others : (k : ℕ) → k ≢ s → hold_at w.at.holds k ≡ hold_at v.at.holds k

-- a seat has gone through the stripes from n on: their slots in hand come behind those of the stripes below
pub record IsRound {T E R K : Type 0} (o : Object T E R) (bare : T → T) (n : ℕ) (me : Me (Slot T E K) (View T E)) (parts : List (std.Option T)) : Type 0 where
  pub quiet : IsQuiet me.0.at
  pub hand_is : me.1 ≡ empties n me.0.at.holds ++ span n (64 - n) me.0.at.holds
  pub room : length parts ≡ 64
  pub out : AreOut bare me.0.at.holds parts
  pub stands : Stands o me.0.at
