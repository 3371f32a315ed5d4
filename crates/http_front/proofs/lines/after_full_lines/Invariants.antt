use Rattle.http_front.specs.Lines.{TakesFullLines}
use Rattle.http_front.proofs.lines.after_full_lines.Given as goal

abbrev pub invariant-loop-line : goal.invariant-loop-line
invariant-loop-line l = TakesFullLines l.bytes l._line l.rest
