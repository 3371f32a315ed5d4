use Rattle.engine.proofs.DeskLemmas.{submit_answers}
use Rattle.engine.proofs.desk.SoloDesk.answer.Goals as goal

pub returns-clause-answered : goal.returns-clause-answered
returns-clause-answered g c =
    submit_answers c.args.self.now c.submit.new.self (g.C.Clock.ahead c.args.clock.now) (g.C.Clock.ahead c.now-moment.new.self)
    c.args.index c.now-moment.result c.args.request c.in_ok-bytes.field-0 c.in_ok-bytes.ensures.ok c.now-moment.ensures.told c.now-moment.ensures.range
