-- Pieces staged one after another, and lists of pieces in another order.
use Rattle.std.specs.Prelude.{◌≢◌, ℕ, List, [], ◌∷◌}
use Prim.Native.Nat.{zero, suc}
use Rattle.std.specs.List.{AllByRecursion}
use Rattle.file_data.specs.FileRecord.{FileRecord, staged_with}

-- the file after pieces were staged, the first of them first
abbrev pub staged_all : List (ℕ × List ℕ) → FileRecord → FileRecord
staged_all [] f = f
staged_all (piece ∷ pieces) f = staged_all pieces (staged_with f piece.0 piece.1)

-- the pieces with the one at an index and the next one exchanged
abbrev pub exchanged : ℕ → List (ℕ × List ℕ) → List (ℕ × List ℕ)
exchanged k [] = []
exchanged k (piece ∷ []) = piece ∷ []
exchanged zero (piece ∷ other ∷ pieces) = other ∷ piece ∷ pieces
exchanged (suc k) (piece ∷ other ∷ pieces) = piece ∷ exchanged k (other ∷ pieces)

-- the pieces in the order that exchanges of neighbours lead to; each order is reached so
abbrev pub reordered : List ℕ → List (ℕ × List ℕ) → List (ℕ × List ℕ)
reordered [] pieces = pieces
reordered (k ∷ ks) pieces = reordered ks (exchanged k pieces)

-- no two pieces start at one position
abbrev pub StartApart : List (ℕ × List ℕ) → Type 0
StartApart [] = Unit {0}
StartApart (piece ∷ pieces) = AllByRecursion (λ other. piece.0 ≢ other.0) pieces × StartApart pieces
