use Rattle.std.proofs.Common.{◌≡◌, take}
use Rattle.std.specs.Prelude.{vec_capacity, vec_len}
use Rattle.file_data.proofs.walk.copy_pieces.Given as goal

abbrev pub invariant-loop-piece : goal.invariant-loop-piece
invariant-loop-piece l =
    (l.copied.items ≡ take l.piece-index l.pieces.items) × (vec_capacity l.copied ≡ vec_capacity l.pieces) × (vec_len l.copied ≡ l.piece-index)
