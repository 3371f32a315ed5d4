use Rattle.std.proofs.Common.{◌-◌, arith}
use Rattle.inode_tree.specs.declared.draft.EvalStop.TheVariants as stop
use Rattle.path_walk.proofs.StepLemmas.{child_known, name_above, one_less, trail_later, stepped, needs, same_error}
use Rattle.path_walk.proofs.way.advance.Goals as goal

pub meet-requires : goal.meet-requires
meet-requires g c = record {
  known = child_known (g.V.View.held c.args.view.now) (g.V.View.shown c.args.view.now) c.args.caller.now c.args.path.now (c.args.depth - 1) c.args.trail c.part.result.now c.requires.trail
      (name_above c.args.path.now (c.args.depth - 1) c.part.result.now (let a = c.requires.some in let b = c.requires.below in omega arith) c.part.ensures);
}

pub returns-in_ok-taken-in-Ok-clause-stepped : goal.returns-in_ok-taken-in-Ok-clause-stepped
returns-in_ok-taken-in-Ok-clause-stepped g c =
    stepped (g.V.View.held c.meet.new.view) (g.V.View.shown c.meet.new.view) c.args.caller.now c.args.path.now (c.args.depth - 1) c.args.depth c.args.trail c.part.result.now
    (trail_later c.meet.ensures.on c.args.trail c.requires.trail) (one_less c.args.depth c.requires.some)
    (name_above c.args.path.now (c.args.depth - 1) c.part.result.now (let a = c.requires.some in let b = c.requires.below in omega arith) c.part.ensures)
    c.in-Ok.met c.in_ok-taken-in-Ok.field-0 c.in-Ok.ensures.met c.in-Ok.ensures.looked c.in_ok-taken-in-Ok.ensures

pub returns-in-Err-clause-need : goal.returns-in-Err-clause-need
returns-in-Err-clause-need g c = λ n e.
    needs (g.V.View.held c.meet.new.view) (g.V.View.shown c.meet.new.view) c.args.caller.now c.args.path.now (c.args.depth - 1) c.args.depth c.args.trail c.part.result.now
    (trail_later c.meet.ensures.on c.args.trail c.requires.trail) (one_less c.args.depth c.requires.some)
    (name_above c.args.path.now (c.args.depth - 1) c.part.result.now (let a = c.requires.some in let b = c.requires.below in omega arith) c.part.ensures)
    n (c.in-Err.ensures.need n (same_error c.in-Err.stop (stop.Need n) e))
