use Rattle.std.proofs.Common.{◌≡◌, ◌++◌, take}
use Rattle.file_data.proofs.extent_list.put_copies.Given as goal

abbrev pub invariant-loop-piece : goal.invariant-loop-piece
invariant-loop-piece l = l.list.items ≡ l.initial.list.items ++ take l.piece-index l.pieces
