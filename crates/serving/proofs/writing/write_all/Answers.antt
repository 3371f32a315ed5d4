use Rattle.std.proofs.Common.{◌∙◌}
use Rattle.serving.proofs.WrittenLemmas.{written_more}
use Rattle.serving.proofs.writing.write_all.Goals as goal

pub writing-preserved : goal.writing-preserved
writing-preserved g c = record {
  written = written_more (g.K.Sink.out c.args.sink.now) (g.K.Sink.out c.writing.sink) (g.K.Sink.out c.write.new.self) c.args.bytes.now c.writing.rest.now c.in-Ok.count c.writing.invariant.written c.in-Ok.ensures.bytes;
  faults = c.in-Ok.ensures.cause.kept ∙ c.writing.invariant.faults;
}
