use Rattle.std.proofs.Common.{Err, ap, subst}
use Rattle.namespace_model.specs.SetFilesystem.{filesystem_set}
use Rattle.path_walk.proofs.CallAnswers.{stopped_by}
use Rattle.op_filesystem.specs.Roots.{IsReached}
use Rattle.op_filesystem.proofs.RootSteps.{set_asks, set_looks, set_says}
use Rattle.op_filesystem.proofs.properties.set_filesystem.Goals as goal

pub find_root-requires : goal.find_root-requires
find_root-requires g c = record { call = c.requires.call; operation = set_asks c.args.call.now c.requires.call c.args.props.now c.requires.operation }

pub returns-in_ok-verdict-in-Ok-Root-clause-evaluated : goal.returns-in_ok-verdict-in-Ok-Root-clause-evaluated
returns-in_ok-verdict-in-Ok-Root-clause-evaluated g c =
    let is = subst (λ r. IsReached (g.V.View.held c.find_root.new.view) (g.V.View.shown c.find_root.new.view) c.args.call.now r) c.in-Ok-Root.field-0-is c.in-Ok-Root.ensures.reached in
    c.settle.ensures.evaluated (λ e. filesystem_set e c.args.call.now.path.now c.args.props.now) c.in-Ok-Root.root.node
    (set_looks c.args.call.now c.requires.call c.args.props.now c.requires.operation is.allowed) is.seat
    (set_says c.args.call.now c.requires.call c.args.props.now c.in-Ok-Root.root.node c.in_ok-verdict-in-Ok-Root.verdict c.in_ok-verdict-in-Ok-Root.ensures)

pub returns-in-Ok-Ended-clause-evaluated : goal.returns-in-Ok-Ended-clause-evaluated
returns-in-Ok-Ended-clause-evaluated g c =
    subst (λ r. IsReached (g.V.View.held c.find_root.new.view) (g.V.View.shown c.find_root.new.view) c.args.call.now r) c.in-Ok-Ended.field-0-is c.in-Ok-Ended.ensures.reached

pub returns-in-Err-clause-evaluated : goal.returns-in-Err-clause-evaluated
returns-in-Err-clause-evaluated g c = stopped_by _ _ c.args.call.now c.in-Err.stop (λ n e. c.in-Err.ensures.need n (ap Err e))
