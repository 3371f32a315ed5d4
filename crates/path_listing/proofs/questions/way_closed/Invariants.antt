use Rattle.std.proofs.Common.{◌≡◌, ◌+◌, drop}
use Rattle.path_listing.specs.Listed.{way_closed}
use Rattle.path_listing.proofs.questions.way_closed.Given as goal

abbrev pub invariant-loop-seen : goal.invariant-loop-seen
invariant-loop-seen l = record {
  depth : l.depth ≡ l.fn.names + l.seen-index;
  left : way_closed l.caller l.token l.fn.names l.way ≡ way_closed l.caller l.token l.depth (drop l.seen-index l.way);
}
