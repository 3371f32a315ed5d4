use Rattle.std.proofs.Common.{◌≡◌, drop}
use Rattle.path_text.specs.Queries.{first_value}
use Rattle.path_text.proofs.query.first_of.Given as goal

abbrev pub invariant-loop-pair : goal.invariant-loop-pair
invariant-loop-pair l = first_value (drop l.pair-index l.pairs) l.key ≡ first_value l.pairs l.key
