use Rattle.std.proofs.Common.{[], inl, refl}
use Rattle.engine.specs.Solos.{as_asked}
use Rattle.serving.specs.declared.end.End.TheVariants.{NoMemory}
use Rattle.serving.proofs.AloneLemmas.{not_begun_alone}
use Rattle.command_words.proofs.WordLemmas.{some_request}
use Rattle.hns_commands.proofs.pipe.run_pipe.Goals as goal

pub returns-in-Err-clause-piped : goal.returns-in-Err-clause-piped
returns-in-Err-clause-piped g c = λ limits is. record {
  journal = [];
  answered = 0;
  end = NoMemory;
  served = not_begun_alone as_asked limits (g.S.Source.left c.args.source.now) (g.K.Sink.out c.args.sink.now) (g.C.Clock.ahead c.args.clock.now) [] (some_request c.args.words.now limits is);
  reads = refl;
  writes = refl;
  complete = λ texts tells each no_read no_write. inl refl;
  status_is = c.status_of_end-in-Err.ensures;
}
