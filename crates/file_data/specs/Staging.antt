-- Staged pieces as a list of pairs: where a piece starts in the file, and its bytes. The list ascends by starts.
use Rattle.std.specs.Prelude.{◌≡◌, ℕ, ◌+◌, ◌<◌, List, [], ◌∷◌, ◌++◌, length, map, nat_lt, nat_le, Option, Some, None, if◌then◌else◌}
use Rattle.std.specs.List.{filter, flat_map, AllByRecursion}
use Rattle.file_data.specs.declared.fault.DataFault.{DataFault}
use Rattle.file_data.specs.declared.fault.DataFault.TheVariants.{Gap, Overlap, WrongPosition}

-- where a piece starts
abbrev pub start_of : ℕ × List ℕ → ℕ
start_of piece = piece.0

-- where a piece ends: the position behind its last byte
abbrev pub end_of : ℕ × List ℕ → ℕ
end_of piece = piece.0 + length piece.1

-- the pieces that start below a position
abbrev pub pieces_below : List (ℕ × List ℕ) → ℕ → List (ℕ × List ℕ)
pieces_below pieces position = filter (λ piece. nat_lt piece.0 position) pieces

-- the pieces that start at a position or above it
abbrev pub pieces_from : List (ℕ × List ℕ) → ℕ → List (ℕ × List ℕ)
pieces_from pieces position = filter (λ piece. nat_le position piece.0) pieces

-- the pieces that start above a position
abbrev pub pieces_above : List (ℕ × List ℕ) → ℕ → List (ℕ × List ℕ)
pieces_above pieces position = filter (λ piece. nat_lt position piece.0) pieces

-- the bytes of pieces, one piece after another
abbrev pub bytes_of : List (ℕ × List ℕ) → List ℕ
bytes_of pieces = flat_map (λ piece. piece.1) pieces

-- the list with a piece at a position: what started there is replaced
abbrev pub with_piece : List (ℕ × List ℕ) → ℕ → List ℕ → List (ℕ × List ℕ)
with_piece pieces position bytes = pieces_below pieces position ++ (position, bytes) ∷ pieces_above pieces position

-- each piece starts below all pieces behind it
abbrev pub Ascends : List (ℕ × List ℕ) → Type 0
Ascends [] = Unit {0}
Ascends (piece ∷ pieces) = AllByRecursion (λ other. piece.0 < other.0) pieces × Ascends pieces

-- the pieces lie end to end from n to q: their starts followed by q are n followed by their ends
abbrev pub Covers : List (ℕ × List ℕ) → ℕ → ℕ → Type 0
Covers pieces n q = map start_of pieces ++ q ∷ [] ≡ n ∷ map end_of pieces

-- the first trouble from the left on the way from n to q: bytes that no piece has, a piece that starts too low, or a
-- last piece that ends above q
abbrev pub first_trouble : List (ℕ × List ℕ) → ℕ → ℕ → Option DataFault
first_trouble [] n q = if nat_lt n q then Some (Gap n) else if nat_lt q n then Some WrongPosition else None
first_trouble (piece ∷ pieces) n q =
    if nat_lt n piece.0 then Some (Gap n)
    else if nat_lt piece.0 n then Some (Overlap piece.0)
    else first_trouble pieces (n + length piece.1) q
