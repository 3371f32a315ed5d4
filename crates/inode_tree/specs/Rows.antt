-- The ids that a pass may give to new nodes. The row of each pass begins at its own place, and its ids lie 65 apart.
use Rattle.std.specs.Prelude.{◌≡◌, ◌≢◌, ℕ, ◌+◌, ◌*◌, ◌<◌, List, Some, slice_get}

-- the id at place k of the row of a pass
abbrev pub fresh_id : ℕ → ℕ → ℕ
fresh_id pass k = 1 + pass + 65 * k

-- two passes below 64 have no id in common
abbrev pub RowsAreApart : Type 0
RowsAreApart = (p q j k : ℕ) → p < 64 → q < 64 → p ≢ q → fresh_id p j ≢ fresh_id q k

-- no pass gives one id twice
abbrev pub RowsRise : Type 0
RowsRise = (p j k : ℕ) → fresh_id p j ≡ fresh_id p k → j ≡ k

-- no pass gives the id of the account
abbrev pub RowsLackTheAccount : Type 0
RowsLackTheAccount = (p k : ℕ) → fresh_id p k ≢ 0

-- the ids are the beginning of the row of a pass
abbrev pub BeginsRow : ℕ → List ℕ → Type 0
BeginsRow pass ids = (k id : ℕ) → slice_get ids k ≡ Some id → id ≡ fresh_id pass k
