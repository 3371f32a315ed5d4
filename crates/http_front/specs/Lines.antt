-- Lines at the front of bytes.
use Rattle.std.specs.Prelude.{◌≡◌, ◌≢◌, ℕ, ◌≤◌, List, ◌++◌, length, slice_index, All}
use Rattle.std.specs.List.{flat_map}
use Rattle.conn_io.specs.Crowded.{IsEmptyLine, IsFullLine}

-- the bytes are an empty line and then the rest
pub record TakesEmptyLine (bytes rest : List ℕ) : Type 0 where
  pub line : List ℕ
  pub whole : bytes ≡ line ++ rest
  pub empty : IsEmptyLine line

-- no empty line stands at the front
abbrev pub BeginsNoEmptyLine : List ℕ → Type 0
BeginsNoEmptyLine bytes = (line rest : List ℕ) → IsEmptyLine line → bytes ≡ line ++ rest → ⊥

-- the bytes are empty lines and then the rest
pub record SkipsEmptyLines (bytes rest : List ℕ) : Type 0 where
  pub empty_lines : List (List ℕ)
  pub whole : bytes ≡ flat_map (λ line. line) empty_lines ++ rest
  pub empty : All IsEmptyLine empty_lines

-- the bytes are a line that isn't empty and then the rest
pub record TakesFullLine (bytes rest : List ℕ) : Type 0 where
  pub line : List ℕ
  pub whole : bytes ≡ line ++ rest
  pub full : IsFullLine line

-- no line that isn't empty stands whole at the front
abbrev pub BeginsNoFullLine : List ℕ → Type 0
BeginsNoFullLine bytes = (line rest : List ℕ) → IsFullLine line → bytes ≡ line ++ rest → ⊥

-- the bytes are so many lines that aren't empty and then the rest
pub record TakesFullLines (bytes : List ℕ) (count : ℕ) (rest : List ℕ) : Type 0 where
  pub full_lines : List (List ℕ)
  pub whole : bytes ≡ flat_map (λ line. line) full_lines ++ rest
  pub full : All IsFullLine full_lines
  pub many : length full_lines ≡ count

-- so many lines that aren't empty don't stand whole at the front
abbrev pub BeginsNoFullLines : List ℕ → ℕ → Type 0
BeginsNoFullLines bytes count =
    (lines : List (List ℕ)) (rest : List ℕ) → All IsFullLine lines → length lines ≡ count
    → bytes ≡ flat_map (λ line. line) lines ++ rest → ⊥

-- the first byte is there, and it ends no line
pub record BeginsText (bytes : List ℕ) : Type 0 where
  pub some : 1 ≤ length bytes
  pub no_feed : slice_index bytes 0 ≢ 10
  pub no_return : slice_index bytes 0 ≢ 13
