-- What a clock tells of its answers to come.
use Rattle.std.specs.Prelude.{◌≡◌, ℕ, ◌+◌, Option, Some, None, ⊤}

-- The answer is the first of those foretold, and the others follow.
abbrev pub Ticks : Option (ℕ → ℕ) → Option (ℕ → ℕ) → ℕ → Type 0
Ticks None new moment = ⊤
Ticks (Some f) None moment = ⊥
Ticks (Some f) (Some g) moment = (moment ≡ f 0) × ((k : ℕ) → g k ≡ f (k + 1))

-- The clock was asked so often.
abbrev pub HasTicked : Option (ℕ → ℕ) → Option (ℕ → ℕ) → ℕ → Type 0
HasTicked None new count = ⊤
HasTicked (Some f) None count = ⊥
HasTicked (Some f) (Some g) count = (k : ℕ) → g k ≡ f (k + count)

-- The moment is the k-th of the foretold answers, counted from 0.
abbrev pub IsForetold : Option (ℕ → ℕ) → ℕ → ℕ → Type 0
IsForetold None k moment = ⊤
IsForetold (Some f) k moment = moment ≡ f k
