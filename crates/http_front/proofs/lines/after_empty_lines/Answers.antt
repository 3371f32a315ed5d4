use Rattle.http_front.proofs.LineLemmas.{SkipsEmptyLines-more}
use Rattle.http_front.proofs.lines.after_empty_lines.Goals as goal

pub skipping-preserved : goal.skipping-preserved
skipping-preserved c = SkipsEmptyLines-more _ _ _ c.skipping.invariant c.in-Some.ensures.taken
