use Rattle.std.proofs.Common.{◌≡◌, drop}
use Rattle.file_data.specs.Staging.{first_trouble}
use Rattle.file_data.proofs.walk.trouble.Given as goal

abbrev pub invariant-loop-piece : goal.invariant-loop-piece
invariant-loop-piece l = first_trouble l.pieces l.from l.to ≡ first_trouble (drop l.piece-index l.pieces) l.at l.to
