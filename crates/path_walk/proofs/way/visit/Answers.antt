use Rattle.std.proofs.Common.{◌≡◌, ◌+◌, ◌-◌, subst, arith}
use Rattle.namespace_model.specs.Trees.{parent}
use Rattle.inode_tree.specs.declared.draft.EvalStop.TheVariants as stop
use Rattle.path_walk.specs.Trails.{IsTrail, IsStepped}
use Rattle.path_walk.proofs.CallLemmas.{on_both}
use Rattle.path_walk.proofs.StepLemmas.{whole, same_error, length_above}
use Rattle.path_walk.proofs.way.visit.Goals as goal

pub returns-in-Err-clause-need : goal.returns-in-Err-clause-need
returns-in-Err-clause-need g c = λ n e. c.in-Err.ensures.need n (same_error c.in-Err.stop (stop.Need n) e)

pub advance-requires-clause-trail : goal.advance-requires-clause-trail
advance-requires-clause-trail g c =
    subst (λ k. IsTrail (g.V.View.held c.loop-place.view) (g.V.View.shown c.loop-place.view) c.args.caller.now (parent c.args.path.now) k c.loop-place.trail)
    (let h : c.loop-place.place ≡ (c.loop-place.place + 1) - 1 = omega arith in h) c.loop-place.invariant.trail

pub returns-in-Err-advance-clause-on : goal.returns-in-Err-advance-clause-on
returns-in-Err-advance-clause-on g c = on_both c.loop-place.invariant.on c.advance.ensures.on

pub returns-in-Err-advance-clause-need : goal.returns-in-Err-advance-clause-need
returns-in-Err-advance-clause-need g c = λ n e. c.in-Err-advance.ensures.need n (same_error c.in-Err-advance.stop (stop.Need n) e)

pub loop-place-preserved : goal.loop-place-preserved
loop-place-preserved g c = record {
  on = on_both c.loop-place.invariant.on c.advance.ensures.on;
  trail = subst (λ s. IsStepped (g.V.View.held c.advance.new.view) (g.V.View.shown c.advance.new.view) c.args.caller.now c.args.path.now (c.loop-place.place + 1) s) c.in-Ok-On.field-0-is c.in-Ok-On.ensures.stepped;
}

pub returns-clause-visited : goal.returns-clause-visited
returns-clause-visited g c =
    (whole (g.V.View.held c.loop-place.view) (g.V.View.shown c.loop-place.view) c.args.caller.now c.args.path.now c.loop-place.place c.loop-place.trail c.ended.result c.loop-place.invariant.trail
    (let a = c.loop-place.auto.place-end in let b = c.loop-place-test.false in let d = c.depth-place-end.ensures in let e = length_above c.args.path.now c.requires.below in omega arith) c.ended.ensures).0

pub returns-clause-looked : goal.returns-clause-looked
returns-clause-looked g c =
    (whole (g.V.View.held c.loop-place.view) (g.V.View.shown c.loop-place.view) c.args.caller.now c.args.path.now c.loop-place.place c.loop-place.trail c.ended.result c.loop-place.invariant.trail
    (let a = c.loop-place.auto.place-end in let b = c.loop-place-test.false in let d = c.depth-place-end.ensures in let e = length_above c.args.path.now c.requires.below in omega arith) c.ended.ensures).1

pub returns-in-Ok-Ended-clause-on : goal.returns-in-Ok-Ended-clause-on
returns-in-Ok-Ended-clause-on g c = on_both c.loop-place.invariant.on c.advance.ensures.on
