use Rattle.std.proofs.Common.{option_map, refl, sym, ◌∙◌}
use Rattle.inode_tree.specs.declared.draft.EvalStop.TheVariants as stop
use Rattle.path_walk.proofs.CallLemmas.{on_both}
use Rattle.path_walk.proofs.StepLemmas.{same_error}
use Rattle.path_walk.proofs.Truths.{is_none}
use Rattle.op_delete.proofs.ClearLemmas.{at_later, none_passed, all_passed, child_is_known, one_refused, one_passed, child_lacks}
use Rattle.op_delete.proofs.directory.ask_children.Goals as goal

pub loop-count-init : goal.loop-count-init
loop-count-init g c = record {
  on = record { held_same = refl; over_same = refl; grows = λ stripe part e. e };
  passed = none_passed (g.V.View.shown c.args.view.now) c.args.caller.now c.args.at.now c.args.node.now;
}

pub look-requires : goal.look-requires
look-requires g c = record {
  known = child_is_known (g.V.View.shown c.loop-count.view) (g.V.View.shown c.loop-count.view) (λ stripe part e. e) c.args.caller.now c.args.at.now c.args.node.now
      (at_later (g.V.View.shown c.args.view.now) (g.V.View.shown c.loop-count.view) c.args.at.now c.args.node.now c.loop-count.invariant.on.grows c.requires.node)
      (option_map (λ n. n.now) c.loop-count.last) c.in-Some.name.now c.in-Some.id c.in-Some.ensures;
}

pub returns-in-Err-clause-on : goal.returns-in-Err-clause-on
returns-in-Err-clause-on g c = on_both c.loop-count.invariant.on c.look.ensures.on

pub returns-in-Err-clause-need : goal.returns-in-Err-clause-need
returns-in-Err-clause-need g c = λ n e.
    child_lacks (g.V.View.shown c.loop-count.view) (g.V.View.shown c.look.new.view) c.look.ensures.on.grows c.args.caller.now c.args.at.now c.args.node.now
    (at_later (g.V.View.shown c.args.view.now) (g.V.View.shown c.loop-count.view) c.args.at.now c.args.node.now c.loop-count.invariant.on.grows c.requires.node)
    (option_map (λ n. n.now) c.loop-count.last) c.in-Some.name.now c.in-Some.id c.in-Some.ensures
    (g.V.View.held c.look.new.view) n (c.in-Err.ensures.need n (same_error c.in-Err.stop (stop.Need n) e))

pub returns-in-None-clause-asks : goal.returns-in-None-clause-asks
returns-in-None-clause-asks g c =
    all_passed (g.V.View.shown c.loop-count.view) c.args.caller.now c.args.at.now c.args.node.now (option_map (λ n. n.now) c.loop-count.last)
    (at_later (g.V.View.shown c.args.view.now) (g.V.View.shown c.loop-count.view) c.args.at.now c.args.node.now c.loop-count.invariant.on.grows c.requires.node)
    c.loop-count.invariant.passed c.in-None.ensures

pub returns-in-None-clause-on : goal.returns-in-None-clause-on
returns-in-None-clause-on g c = c.loop-count.invariant.on

pub returns-clause-on : goal.returns-clause-on
returns-clause-on g c = c.loop-count.invariant.on

pub returns-in_err-reply-in-Some-clause-on : goal.returns-in_err-reply-in-Some-clause-on
returns-in_err-reply-in-Some-clause-on g c = on_both c.loop-count.invariant.on c.look.ensures.on

pub returns-in-Some-2-clause-on : goal.returns-in-Some-2-clause-on
returns-in-Some-2-clause-on g c = on_both c.loop-count.invariant.on c.look.ensures.on

pub returns-in-Some-2-clause-asks : goal.returns-in-Some-2-clause-asks
returns-in-Some-2-clause-asks g c =
    one_refused (g.V.View.shown c.loop-count.view) (g.V.View.shown c.look.new.view) c.look.ensures.on.grows c.args.caller.now c.args.at.now c.args.node.now
    (at_later (g.V.View.shown c.args.view.now) (g.V.View.shown c.loop-count.view) c.args.at.now c.args.node.now c.loop-count.invariant.on.grows c.requires.node)
    (option_map (λ n. n.now) c.loop-count.last) c.in-Some.name.now c.in-Some.id c.in-Some.ensures c.in-Ok.child c.in-Ok.ensures.looks c.loop-count.invariant.passed
    c.in-Some-2.reply (sym c.in_ok-reply-in-Some.ensures ∙ c.in-Some-2.is)

pub loop-count-preserved : goal.loop-count-preserved
loop-count-preserved g c = record {
  on = on_both c.loop-count.invariant.on c.look.ensures.on;
  passed = one_passed (g.V.View.shown c.loop-count.view) (g.V.View.shown c.look.new.view) c.look.ensures.on.grows c.args.caller.now c.args.at.now c.args.node.now
      (at_later (g.V.View.shown c.args.view.now) (g.V.View.shown c.loop-count.view) c.args.at.now c.args.node.now c.loop-count.invariant.on.grows c.requires.node)
      (option_map (λ n. n.now) c.loop-count.last) c.in-Some.name.now c.in-Some.id c.in-Some.ensures c.in-Ok.child c.in-Ok.ensures.looks c.loop-count.invariant.passed
      (sym c.in_ok-reply-in-Some.ensures ∙ is_none _ c.in_default.not-Some);
}
