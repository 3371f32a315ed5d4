use Rattle.std.proofs.Common.{arith}
use Rattle.http_front.proofs.LineLemmas.{TakesFullLines-more, BeginsNoFullLines-by_fewer}
use Rattle.http_front.proofs.lines.after_full_lines.Goals as goal

pub loop-line-preserved : goal.loop-line-preserved
loop-line-preserved c = TakesFullLines-more _ _ _ c.loop-line._line c.loop-line.invariant c.in-Some.ensures

pub returns-in-None : goal.returns-in-None
returns-in-None c = BeginsNoFullLines-by_fewer _ _ c.loop-line._line 65 c.loop-line.invariant c.in-None.ensures (omega arith)
