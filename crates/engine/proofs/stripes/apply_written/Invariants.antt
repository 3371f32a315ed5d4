use Rattle.engine.specs.Stripes.{applied_where}
use Rattle.engine.proofs.StripeLemmas.{AreChangedBut}
use Rattle.engine.proofs.stripes.apply_written.Given as goal

abbrev pub invariant-each : goal.invariant-each
invariant-each l = AreChangedBut (applied_where l.written l.number l.changes) l.written l.left l.fn.stripes l.stripes

abbrev pub decreases-each : goal.decreases-each
decreases-each l = l.left
