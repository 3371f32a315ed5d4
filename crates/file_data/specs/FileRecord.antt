-- What contracts see of a file's data, and what each call makes of it. Positions and lengths are bytes.
use Rattle.std.specs.Prelude.{◌≡◌, ℕ, Bool, ◌+◌, ◌<◌, ◌≤◌, List, [], ◌∷◌, ◌++◌, length, nat_lt, Option, Some, None, Result, Ok, Err, if◌then◌else◌, All}
use Rattle.file_data.specs.declared.fault.DataFault.{DataFault}
use Rattle.file_data.specs.declared.fault.DataFault.TheVariants.{BelowLength, TooLarge}
use Rattle.file_data.specs.Staging.{pieces_below, pieces_from, bytes_of, with_piece, Ascends, Covers, first_trouble}

-- the committed bytes, the extents that they lie in, the staged pieces, and how many calls of stage and of flush there
-- is room for
pub record FileRecord : Type 0 where
  pub committed : List ℕ
  pub extents : List (ℕ × List ℕ)
  pub staged : List (ℕ × List ℕ)
  pub stage_room : ℕ
  pub flush_room : ℕ

-- the most bytes that a file may have
abbrev pub file_max : ℕ
file_max = 268435456

-- a piece that isn't empty, starts at the length of the file or above it, and ends within the limit
pub record IsStagedPiece (len : ℕ) (piece : ℕ × List ℕ) : Type 0 where
  pub starts : len ≤ piece.0
  pub filled : 0 < length piece.1
  pub ends : piece.0 + length piece.1 ≤ file_max

-- what is true of each file: its length is within the limit, its staged pieces ascend, and each is as it has to be
pub record IsFile (committed : List ℕ) (staged : List (ℕ × List ℕ)) : Type 0 where
  pub within : length committed ≤ file_max
  pub ascends : Ascends staged
  pub pieces : All (IsStagedPiece (length committed)) staged

-- how bytes lie in extents: none is empty, they lie end to end from 0 to the length, and their bytes are the bytes
pub record AreExtents (committed : List ℕ) (extents : List (ℕ × List ℕ)) : Type 0 where
  pub filled : All (λ (extent : ℕ × List ℕ). 0 < length extent.1) extents
  pub cover : Covers extents 0 (length committed)
  pub bytes : committed ≡ bytes_of extents

-- bytes in one extent, or in none where there are none
abbrev pub one_extent : List ℕ → List (ℕ × List ℕ)
one_extent [] = []
one_extent (byte ∷ bytes) = (0, byte ∷ bytes) ∷ []

-- a file with these bytes, in one extent, and these staged pieces, without room
abbrev pub file_of : List ℕ → List (ℕ × List ℕ) → FileRecord
file_of bytes staged = record {
  committed = bytes;
  extents = one_extent bytes;
  staged = staged;
  stage_room = 0;
  flush_room = 0;
}

-- a file with nothing in it, without room
abbrev pub bare_file : FileRecord
bare_file = file_of [] []

-- the same committed bytes in the same extents and the same staged pieces, whatever the room
abbrev pub SameButRoom : FileRecord → FileRecord → Type 0
SameButRoom old new = (new.committed ≡ old.committed) × (new.extents ≡ old.extents) × (new.staged ≡ old.staged)

-- the same bytes, extents and pieces, and no less room
abbrev pub OnlyGainsRoom : FileRecord → FileRecord → Type 0
OnlyGainsRoom old new = SameButRoom old new × (old.stage_room ≤ new.stage_room) × (old.flush_room ≤ new.flush_room)

-- whether a piece may be staged at a position
abbrev pub stage_answer : FileRecord → ℕ → List ℕ → Result Unit DataFault
stage_answer f position bytes =
    if nat_lt position (length f.committed) then Err BelowLength
    else if nat_lt file_max (position + length bytes) then Err TooLarge
    else Ok tt

-- the file with a piece staged at a position
abbrev pub staged_with : FileRecord → ℕ → List ℕ → FileRecord
staged_with f position bytes = record f { staged = with_piece f.staged position bytes }

-- a flush is allowed: it goes to the length or above it, and the staged pieces below lie end to end up to there
abbrev pub CanFlush : FileRecord → ℕ → Type 0
CanFlush f position =
    (length f.committed ≤ position) × Covers (pieces_below f.staged position) (length f.committed) position

abbrev pub refusal : Option DataFault → Result Unit DataFault
refusal None = Ok tt
refusal (Some fault) = Err fault

-- whether a flush is allowed, or its first trouble
abbrev pub flush_answer : FileRecord → ℕ → Result Unit DataFault
flush_answer f position =
    if nat_lt position (length f.committed) then Err BelowLength
    else refusal (first_trouble (pieces_below f.staged position) (length f.committed) position)

-- the file after an allowed flush: the pieces below are appended, each an extent, and the rest is kept or dropped
abbrev pub flushed : FileRecord → ℕ → Bool → FileRecord
flushed f position retain =
    record f {
      committed = f.committed ++ bytes_of (pieces_below f.staged position);
      extents = f.extents ++ pieces_below f.staged position;
      staged = if retain then pieces_from f.staged position else [];
    }

-- where a piece ends that is put at a position
abbrev pub end_at : ℕ → List ℕ → ℕ
end_at position bytes = position + length bytes

-- an append with flush is a stage and then a flush to the end of the piece; it is allowed where both are
abbrev pub CanAppendFlush : FileRecord → ℕ → List ℕ → Type 0
CanAppendFlush f position bytes =
    (stage_answer f position bytes ≡ Ok tt) × CanFlush (staged_with f position bytes) (end_at position bytes)

-- the second answer, where the first one allows it
abbrev pub and_then : Result Unit DataFault → Result Unit DataFault → Result Unit DataFault
and_then (Ok _) second = second
and_then (Err fault) second = Err fault

-- whether an append with flush is allowed, or the fault of the stage, else that of the flush after it
abbrev pub append_flush_answer : FileRecord → ℕ → List ℕ → Result Unit DataFault
append_flush_answer f position bytes =
    and_then (stage_answer f position bytes) (flush_answer (staged_with f position bytes) (end_at position bytes))

-- the file after an allowed append with flush
abbrev pub append_flushed : FileRecord → ℕ → List ℕ → Bool → FileRecord
append_flushed f position bytes retain = flushed (staged_with f position bytes) (end_at position bytes) retain
