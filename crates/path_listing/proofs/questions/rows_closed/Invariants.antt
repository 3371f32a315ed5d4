use Rattle.std.proofs.Common.{◌≡◌, drop}
use Rattle.path_listing.specs.Listed.{rows_closed}
use Rattle.path_listing.proofs.questions.rows_closed.Given as goal

abbrev pub invariant-loop-row : goal.invariant-loop-row
invariant-loop-row l = rows_closed l.caller l.dir l.rows ≡ rows_closed l.caller l.dir (drop l.row-index l.rows)
