use Rattle.std.proofs.Common.{◌≡◌, map}
use Rattle.path_text.specs.Targets.{pair_of}
use Rattle.path_text.proofs.target.pairs_of.Given as goal

abbrev pub invariant-loop-piece : goal.invariant-loop-piece
invariant-loop-piece l = l.pairs.items ≡ map pair_of (map (λ piece. piece.now) l.yielded)
