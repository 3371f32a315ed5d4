-- Bytes with more lines than the head of a request may have.
use Rattle.std.specs.Prelude.{◌≡◌, ◌≢◌, ℕ, ◌⊎◌, List, [], ◌∷◌, ◌++◌, length, All}
use Rattle.std.specs.List.{flat_map}

-- a line feed alone, or behind a carriage return
abbrev pub IsEmptyLine : List ℕ → Type 0
IsEmptyLine line = (line ≡ 10 ∷ []) ⊎ (line ≡ 13 ∷ 10 ∷ [])

-- A line that isn't empty: its text, and the line feed that ends it. A carriage return before the feed belongs to the end.
pub record IsFullLine (line : List ℕ) : Type 0 where
  pub text : List ℕ
  pub ends : line ≡ text ++ 10 ∷ []
  pub no_feed : All (λ b. b ≢ 10) text
  pub not_bare : text ≢ []
  pub not_returned : text ≢ 13 ∷ []

-- Behind the empty lines at the start there are 65 lines that aren't empty, and then a byte that ends no line: a start line,
-- 64 header lines, and the beginning of one more.
pub record Crowded (bytes : List ℕ) : Type 0 where
  pub empty_lines : List (List ℕ)
  pub full_lines : List (List ℕ)
  pub next : ℕ
  pub more : List ℕ
  pub whole : bytes ≡ flat_map (λ line. line) empty_lines ++ flat_map (λ line. line) full_lines ++ next ∷ more
  pub empty : All IsEmptyLine empty_lines
  pub full : All IsFullLine full_lines
  pub many : length full_lines ≡ 65
  pub no_feed : next ≢ 10
  pub no_return : next ≢ 13
