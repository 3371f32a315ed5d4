-- What a listener's answers say of it.
use Rattle.std.specs.Prelude.{◌≡◌, ℕ, suc, ◌-◌, ◌≤◌, Bool, true, Option, Some}
use Rattle.conn_io.specs.Causes.{Rose}
use Rattle.conn_io.specs.declared.listeners.Accept.{Accept}
use Rattle.conn_io.specs.declared.listeners.Accept.TheVariants.{Conn, Ended, Failed}

-- as many connections as a listener may give
abbrev pub CONNECTIONS_MOST : ℕ
CONNECTIONS_MOST = 4294967295

module _ {I O : Type 0} where
  -- a connection raises the number of those that were given by one, and nothing else does
  abbrev pub Gives : ℕ → ℕ → Accept I O → Type 0
  Gives before now (Conn source sink) = now ≡ suc before
  Gives before now Ended = now ≡ before
  Gives before now Failed = now ≡ before

  -- Where it is told how many are to come, a connection is one of them, and nothing else takes one away.
  abbrev pub Leaves : Option ℕ → Option ℕ → Accept I O → Type 0
  Leaves before now (Conn source sink) = (n : ℕ) → before ≡ Some n → (1 ≤ n) × (now ≡ Some (n - 1))
  Leaves before now Ended = now ≡ before
  Leaves before now Failed = now ≡ before

  -- The end is for good, comes where none is to come if that is told, and nothing else brings it.
  abbrev pub EndsHere : Bool → Bool → Option ℕ → Accept I O → Type 0
  EndsHere before now left (Conn source sink) = now ≡ before
  EndsHere before now left Ended = (now ≡ true) × ((n : ℕ) → left ≡ Some n → n ≡ 0)
  EndsHere before now left Failed = now ≡ before

  -- The count of faults never falls, and where the listener fails it rose.
  abbrev pub HasRisen : ℕ → ℕ → Accept I O → Type 0
  HasRisen before now (Conn source sink) = before ≤ now
  HasRisen before now Ended = before ≤ now
  HasRisen before now Failed = (before ≤ now) × Rose before now
