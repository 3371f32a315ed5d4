-- When each trouble of a flush comes, as statements on the whole list of pieces.
use Rattle.std.specs.Prelude.{◌≡◌, ℕ, ◌<◌, List, [], ◌∷◌, ◌++◌}
use Rattle.file_data.specs.declared.fault.DataFault.{DataFault}
use Rattle.file_data.specs.declared.fault.DataFault.TheVariants.{BelowLength, Gap, Overlap, WrongPosition, TooLarge}
use Rattle.file_data.specs.Staging.{Covers}

-- there is no piece and at is below q, or the first piece starts above at
abbrev pub BeginsAbove : List (ℕ × List ℕ) → ℕ → ℕ → Type 0
BeginsAbove [] at q = at < q
BeginsAbove (piece ∷ pieces) at q = at < piece.0

-- some pieces lie end to end from n to at, and nothing goes on there
abbrev pub HasGap : List (ℕ × List ℕ) → ℕ → ℕ → ℕ → Type 0
HasGap pieces n q at =
    (front : List (ℕ × List ℕ)) × (back : List (ℕ × List ℕ)) × (pieces ≡ front ++ back) × Covers front n at × BeginsAbove back at q

-- some pieces lie end to end from n to a place, and the next piece starts below that place, at start
abbrev pub HasOverlap : List (ℕ × List ℕ) → ℕ → ℕ → Type 0
HasOverlap pieces n start =
    (front : List (ℕ × List ℕ)) × (bytes : List ℕ) × (back : List (ℕ × List ℕ)) × (at : ℕ)
    × (pieces ≡ front ++ (start, bytes) ∷ back) × Covers front n at × (start < at)

-- all pieces lie end to end from n to a place above q
abbrev pub EndsAbove : List (ℕ × List ℕ) → ℕ → ℕ → Type 0
EndsAbove pieces n q = (at : ℕ) × Covers pieces n at × (q < at)

-- the trouble of a way to a position, where a piece at that position goes on from there: what ends above it overlaps the
-- piece
abbrev pub met_by_piece : ℕ → DataFault → DataFault
met_by_piece position BelowLength = BelowLength
met_by_piece position (Gap at) = Gap at
met_by_piece position (Overlap start) = Overlap start
met_by_piece position WrongPosition = Overlap position
met_by_piece position TooLarge = TooLarge
