use Rattle.std.proofs.Common.{◌≡◌, length}
use Rattle.serving.proofs.WrittenLemmas.{HasWritten}
use Rattle.serving.proofs.writing.write_all.Given as goal

abbrev pub invariant-writing : goal.invariant-writing
invariant-writing g l = record {
  written : HasWritten (g.K.Sink.out l.fn.sink) (g.K.Sink.out l.sink) l.bytes l.rest;
  faults : g.K.Sink.faults l.sink ≡ g.K.Sink.faults l.fn.sink;
}

abbrev pub decreases-writing : goal.decreases-writing
decreases-writing g l = length l.rest
