use Rattle.std.proofs.Common.{◌≡◌, ◌<◌, length, refl, subst, arith}
use Rattle.inode_tree.specs.declared.draft.EvalStop.TheVariants as stop
use Rattle.path_walk.proofs.CallLemmas.{on_both}
use Rattle.path_walk.proofs.StepLemmas.{same_error}
use Rattle.path_order.specs.Starts.{IsLookAt}
use Rattle.path_order.proofs.WayLemmas.{starts, arrives, going_as, going_known, goes_there, stops_there, needs_there}
use Rattle.path_order.proofs.begin.behind.Goals as goal

pub loop-name-init : goal.loop-name-init
loop-name-init g c = record {
  on = record { held_same = refl; over_same = refl; grows = λ stripe part e. e };
  going = λ p is. starts (g.V.View.held c.args.view.now) (g.V.View.shown c.args.view.now) p c.args.root c.new-levels.result.items c.new-seen.result.items c.new-levels.ensures.items c.new-seen.ensures.items is;
}

pub look_at-requires : goal.look_at-requires
look_at-requires g c = record {
  known = going_known (g.V.View.held c.loop-name.view) (g.V.View.held c.loop-name.view) (g.V.View.shown c.loop-name.view) (g.V.View.shown c.loop-name.view) c.requires.root.0 c.args.names.now c.loop-name.name-index c.name-item.result c.loop-name.levels.items c.loop-name.node c.loop-name.seen.items
      refl (λ stripe part e. e) (let a = c.loop-name-test.true in let b = c.loop-name.auto.name-index-end in let h : c.loop-name.name-index < length c.args.names.now = omega arith in h) c.name-item.is (c.loop-name.invariant.going c.requires.root.0 c.requires.root.1);
}

pub returns-in-Err-clause-need : goal.returns-in-Err-clause-need
returns-in-Err-clause-need g c = λ n e p is.
    needs_there (g.V.View.held c.look_at.new.view) (g.V.View.held c.look_at.new.view) (g.V.View.shown c.loop-name.view) (g.V.View.shown c.look_at.new.view) p c.args.names.now c.loop-name.name-index c.name-item.result c.loop-name.levels.items c.loop-name.node c.loop-name.seen.items
    refl c.look_at.ensures.on.grows (let a = c.loop-name-test.true in let b = c.loop-name.auto.name-index-end in let h : c.loop-name.name-index < length c.args.names.now = omega arith in h) c.name-item.is (going_as c.look_at.ensures.on.held_same (c.loop-name.invariant.going p is)) n (c.in-Err.ensures.need n (same_error c.in-Err.stop (stop.Need n) e))

pub returns-in_err-put_level-clause-on : goal.returns-in_err-put_level-clause-on
returns-in_err-put_level-clause-on g c = on_both c.loop-name.invariant.on c.look_at.ensures.on

pub returns-in-None-clause-start : goal.returns-in-None-clause-start
returns-in-None-clause-start g c = λ p is.
    stops_there (g.V.View.held c.look_at.new.view) (g.V.View.held c.look_at.new.view) (g.V.View.shown c.loop-name.view) (g.V.View.shown c.look_at.new.view) p c.args.names.now c.loop-name.name-index c.name-item.result c.loop-name.levels.items c.loop-name.node c.loop-name.seen.items
    refl c.look_at.ensures.on.grows (let a = c.loop-name-test.true in let b = c.loop-name.auto.name-index-end in let h : c.loop-name.name-index < length c.args.names.now = omega arith in h) c.name-item.is (going_as c.look_at.ensures.on.held_same (c.loop-name.invariant.going p is))
    _ (subst (λ o. IsLookAt (g.V.View.held c.look_at.new.view) (g.V.View.shown c.look_at.new.view) c.loop-name.node c.name-item.result o) c.in-None.is c.in-Ok.ensures.look) c.in_ok-put_level.ensures refl refl

pub returns-in_err-node-in-Some-clause-on : goal.returns-in_err-node-in-Some-clause-on
returns-in_err-node-in-Some-clause-on g c = on_both c.loop-name.invariant.on c.look_at.ensures.on

pub returns-in_err-push-in-Some-clause-on : goal.returns-in_err-push-in-Some-clause-on
returns-in_err-push-in-Some-clause-on g c = on_both c.loop-name.invariant.on c.look_at.ensures.on

pub loop-name-preserved : goal.loop-name-preserved
loop-name-preserved g c = record {
  on = on_both c.loop-name.invariant.on c.look_at.ensures.on;
  going = λ p is.
      goes_there (g.V.View.held c.look_at.new.view) (g.V.View.held c.look_at.new.view) (g.V.View.shown c.loop-name.view) (g.V.View.shown c.look_at.new.view) p c.args.names.now c.loop-name.name-index c.name-item.result c.loop-name.levels.items c.loop-name.node c.loop-name.seen.items
      refl c.look_at.ensures.on.grows (let a = c.loop-name-test.true in let b = c.loop-name.auto.name-index-end in let h : c.loop-name.name-index < length c.args.names.now = omega arith in h) c.name-item.is (going_as c.look_at.ensures.on.held_same (c.loop-name.invariant.going p is))
      c.in-Some.child c.in_ok-node-in-Some.node c.put_level.new.levels.items _ (subst (λ o. IsLookAt (g.V.View.held c.look_at.new.view) (g.V.View.shown c.look_at.new.view) c.loop-name.node c.name-item.result o) c.in-Some.is c.in-Ok.ensures.look) c.in_ok-node-in-Some.ensures c.in_ok-put_level.ensures c.in_ok-push-in-Some.ensures.items;
}

pub returns-clause-start : goal.returns-clause-start
returns-clause-start g c = λ p is.
    arrives (g.V.View.held c.loop-name.view) (g.V.View.shown c.loop-name.view) p c.args.names.now c.loop-name.name-index c.loop-name.levels.items c.loop-name.node _
    (let a = c.loop-name-test.false in let b = c.loop-name.auto.name-index-end in let h : c.loop-name.name-index ≡ length c.args.names.now = omega arith in h) (c.loop-name.invariant.going p is) refl refl
