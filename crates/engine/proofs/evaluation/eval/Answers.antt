use Rattle.engine.proofs.EvalLemmas.{refused_draft}
use Rattle.engine.proofs.evaluation.eval.Goals as goal

pub returns-in_ok-refused-in-Refused-clause-evaluated : goal.returns-in_ok-refused-in-Refused-clause-evaluated
returns-in_ok-refused-in-Refused-clause-evaluated g c =
    refused_draft (g.V.View.held c.args.view.now) (g.V.View.shown c.args.view.now) c.args.request.now c.args.moment c.args.fresh.now c.in-Refused.code c.in_ok-refused-in-Refused.field-0
    c.in-Refused.is c.requires.sound c.in_ok-refused-in-Refused.ensures
