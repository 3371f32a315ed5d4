-- Which of the clock's answers the moments of entries are.
use Rattle.std.specs.Prelude.{◌≡◌, ℕ, suc, ◌+◌, ◌≤◌, ⊤, List, [], ◌∷◌}

-- One request asks the clock some times, and one of these answers is its moment: a rule on the number of that answer, counted from 0, and
-- on how often the clock was asked. The clock was asked `from` times before the request and `next` times behind it, and of all its answers
-- the moment is number `k`.
pub record Asks (rule : ℕ → ℕ → Type 0) (from k next : ℕ) : Type 0 where
  pub answer : ℕ
  pub times : ℕ
  pub ruled : rule answer times
  pub place : k ≡ from + answer
  pub next_is : next ≡ from + times

-- the same for the requests from the one on before which the clock was asked `from` times
abbrev pub Paced : (rule : ℕ → ℕ → Type 0) → ℕ → List ℕ → Type 0
Paced rule from [] = ⊤
Paced rule from (k ∷ ks) = (next : ℕ) × Asks rule from k next × Paced rule next ks

-- each moment is a later answer than the one before
abbrev pub Rise : ℕ → List ℕ → Type 0
Rise from [] = ⊤
Rise from (k ∷ ks) = (from ≤ k) × Rise (suc k) ks

-- each moment is the next answer
abbrev pub FollowOn : ℕ → List ℕ → Type 0
FollowOn from [] = ⊤
FollowOn from (k ∷ ks) = (k ≡ from) × FollowOn (suc from) ks

-- the clock is asked once a request, and that answer is the moment
abbrev pub AsksOnce : ℕ → ℕ → Type 0
AsksOnce answer times = (answer ≡ 0) × (times ≡ 1)
