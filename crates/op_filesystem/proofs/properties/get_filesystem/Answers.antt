use Rattle.std.proofs.Common.{Err, ap, subst}
use Rattle.namespace_model.specs.GetFilesystem.{filesystem_shown}
use Rattle.path_walk.proofs.CallAnswers.{stopped_by}
use Rattle.op_filesystem.specs.Roots.{IsReached}
use Rattle.op_filesystem.proofs.RootSteps.{get_asks, get_looks, get_says}
use Rattle.op_filesystem.proofs.properties.get_filesystem.Goals as goal

pub find_root-requires : goal.find_root-requires
find_root-requires g c = record { call = c.requires.call; operation = get_asks c.args.call.now c.requires.call c.requires.operation }

pub returns-in_ok-shown-in-Ok-Root-clause-evaluated : goal.returns-in_ok-shown-in-Ok-Root-clause-evaluated
returns-in_ok-shown-in-Ok-Root-clause-evaluated g c =
    let is = subst (λ r. IsReached (g.V.View.held c.find_root.new.view) (g.V.View.shown c.find_root.new.view) c.args.call.now r) c.in-Ok-Root.field-0-is c.in-Ok-Root.ensures.reached in
    c.settle.ensures.evaluated (λ e. filesystem_shown) c.in-Ok-Root.root.node (get_looks c.args.call.now c.requires.call c.requires.operation is.allowed) is.seat
    (get_says c.args.call.now c.requires.call c.in-Ok-Root.root.node _ c.in_ok-shown-in-Ok-Root.ensures)

pub returns-in-Ok-Ended-clause-evaluated : goal.returns-in-Ok-Ended-clause-evaluated
returns-in-Ok-Ended-clause-evaluated g c =
    subst (λ r. IsReached (g.V.View.held c.find_root.new.view) (g.V.View.shown c.find_root.new.view) c.args.call.now r) c.in-Ok-Ended.field-0-is c.in-Ok-Ended.ensures.reached

pub returns-in-Err-clause-evaluated : goal.returns-in-Err-clause-evaluated
returns-in-Err-clause-evaluated g c = stopped_by _ _ c.args.call.now c.in-Err.stop (λ n e. c.in-Err.ensures.need n (ap Err e))
