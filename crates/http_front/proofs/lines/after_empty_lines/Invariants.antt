use Rattle.std.proofs.Common.{length}
use Rattle.http_front.specs.Lines.{SkipsEmptyLines}
use Rattle.http_front.proofs.lines.after_empty_lines.Given as goal

abbrev pub invariant-skipping : goal.invariant-skipping
invariant-skipping l = SkipsEmptyLines l.bytes l.rest

abbrev pub decreases-skipping : goal.decreases-skipping
decreases-skipping l = length l.rest
