use Rattle.lock_tests.proofs.Tallying.{none_above, none_beyond}
use Rattle.lock_tests.proofs.tests.extending.climbed.Goals as goal

pub extend-requires-clause-above : goal.extend-requires-clause-above
extend-requires-clause-above g c = λ k above h. none_above c.begin-held.result.modes c.none-plan.result c.begin-held.ensures.plan c.none-plan.ensures k h

pub extend-requires-2-clause-above : goal.extend-requires-2-clause-above
extend-requires-2-clause-above g c = none_beyond c.begin-held.result.modes c.extend.new.held.modes c.args.low c.extend.ensures.plan
    (none_above c.begin-held.result.modes c.none-plan.result c.begin-held.ensures.plan c.none-plan.ensures)
