use Rattle.engine.specs.Solos.{as_asked}
use Rattle.serving.proofs.AloneLemmas.{served_alone}
use Rattle.engine.proofs.desk.serve_solo.Goals as goal

pub returns-clause-served : goal.returns-clause-served
returns-clause-served g c =
    served_alone as_asked c.args.solo.now.limits (g.S.Source.left c.args.source.now) (g.S.Source.left c.serve.new.source) (g.K.Sink.out c.args.sink.now) (g.K.Sink.out c.serve.new.sink)
    (g.C.Clock.ahead c.args.clock.now) c.args.solo.now.entries c.serve.new.desk.entries c.serve.result.0 c.serve.result.1 c.serve.ensures.served
