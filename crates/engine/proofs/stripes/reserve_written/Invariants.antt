use Rattle.engine.proofs.StripeLemmas.{AreChangedBut, AreReadyBut}
use Rattle.engine.proofs.stripes.reserve_written.Given as goal

abbrev pub invariant-each : goal.invariant-each
invariant-each l = record {
  same : AreChangedBut (λ place stripe part. part) l.written l.left l.fn.stripes l.stripes;
  ready : AreReadyBut l.written l.left l.stripes l.changes;
}

abbrev pub decreases-each : goal.decreases-each
decreases-each l = l.left
