use Rattle.lock_tests.proofs.Tallying.{planned}
use Rattle.lock_tests.proofs.callers.footprint.Goals as goal

pub returns : goal.returns
returns c = planned c.args.reads c.args.writes _ _ _ c.requires.0 c.requires.1 c.none-plan.ensures c.set.ensures c.set-2.ensures
