use Rattle.std.proofs.Common.{Err, ap, subst}
use Rattle.path_walk.proofs.CallAnswers.{stopped_by}
use Rattle.path_walk.proofs.CallLemmas.{on_both}
use Rattle.op_filesystem.specs.Roots.{IsReached}
use Rattle.op_filesystem.proofs.RootSteps.{delete_asks}
use Rattle.op_filesystem.proofs.delete.delete_filesystem.Goals as goal

pub find_root-requires : goal.find_root-requires
find_root-requires g c = record { call = c.requires.call; operation = delete_asks c.args.call.now c.requires.call c.requires.operation }

pub take_away-requires-clause-root : goal.take_away-requires-clause-root
take_away-requires-clause-root g c =
    subst (λ r. IsReached (g.V.View.held c.find_root.new.view) (g.V.View.shown c.find_root.new.view) c.args.call.now r) c.in-Ok-Root.field-0-is c.in-Ok-Root.ensures.reached

pub returns-in-Ok-Root-clause-on : goal.returns-in-Ok-Root-clause-on
returns-in-Ok-Root-clause-on g c = on_both c.find_root.ensures.on c.take_away.ensures.on

pub returns-in-Ok-Ended-clause-evaluated : goal.returns-in-Ok-Ended-clause-evaluated
returns-in-Ok-Ended-clause-evaluated g c =
    subst (λ r. IsReached (g.V.View.held c.find_root.new.view) (g.V.View.shown c.find_root.new.view) c.args.call.now r) c.in-Ok-Ended.field-0-is c.in-Ok-Ended.ensures.reached

pub returns-in-Err-clause-evaluated : goal.returns-in-Err-clause-evaluated
returns-in-Err-clause-evaluated g c = stopped_by _ _ c.args.call.now c.in-Err.stop (λ n e. c.in-Err.ensures.need n (ap Err e))
