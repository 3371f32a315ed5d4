use Rattle.lock_tests.proofs.Shelving.{shelved}
use Rattle.lock_tests.proofs.shelves.shelf_plan.Goals as goal

pub returns : goal.returns
returns c = shelved c.args.shelf _ _ c.requires c.none-plan.ensures c.set.ensures
