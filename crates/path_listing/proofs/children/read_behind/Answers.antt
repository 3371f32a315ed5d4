use Rattle.std.proofs.Common.{◌≡◌, ◌<◌, ◌≤◌, option_map, refl, ◌∙◌, arith}
use Rattle.inode_tree.specs.declared.draft.EvalStop.TheVariants as stop
use Rattle.path_walk.proofs.CallLemmas.{on_both}
use Rattle.path_walk.proofs.StepLemmas.{same_error}
use Rattle.path_listing.proofs.ChildLemmas.{no_children, children_as, root_later, child_known, one_child, child_lacks, children_ended, children_full, some_as}
use Rattle.path_listing.proofs.children.read_behind.Goals as goal

pub loop-count-init : goal.loop-count-init
loop-count-init g c = record {
  on = record { held_same = refl; over_same = refl; grows = λ stripe part e. e };
  rows = λ dir is. no_children (g.V.View.held c.args.view.now) (g.V.View.shown c.args.view.now) dir (option_map (λ n. n.now) c.args.behind) c.new-rows.result.items c.new-rows.ensures.items;
}

pub look-requires : goal.look-requires
look-requires g c = record {
  known = child_known (g.V.View.held c.loop-count.view) (g.V.View.shown c.loop-count.view) (g.V.View.shown c.loop-count.view) c.requires.root.0 (option_map (λ n. n.now) c.args.behind) c.loop-count._count (option_map (λ n. n.now) c.loop-count.last) c.loop-count.rows.items
      (λ stripe part e. e) (c.loop-count.invariant.rows c.requires.root.0 c.requires.root.1) c.args.node.now
      (root_later (g.V.View.shown c.args.view.now) (g.V.View.shown c.loop-count.view) c.requires.root.0 c.args.node.now c.loop-count.invariant.on.grows c.requires.root.1)
      c.in-Some.name.now c.in-Some.id c.in-Some.ensures;
}

pub returns-in-Err-clause-on : goal.returns-in-Err-clause-on
returns-in-Err-clause-on g c = on_both c.loop-count.invariant.on c.look.ensures.on

pub returns-in-Err-clause-need : goal.returns-in-Err-clause-need
returns-in-Err-clause-need g c = λ n e dir is.
    child_lacks (g.V.View.held c.look.new.view) (g.V.View.shown c.loop-count.view) (g.V.View.shown c.look.new.view) dir (option_map (λ n. n.now) c.args.behind) c.loop-count._count (option_map (λ n. n.now) c.loop-count.last) c.loop-count.rows.items
    c.look.ensures.on.grows (children_as c.look.ensures.on.held_same (c.loop-count.invariant.rows dir is)) c.args.node.now
    (root_later (g.V.View.shown c.args.view.now) (g.V.View.shown c.loop-count.view) dir c.args.node.now c.loop-count.invariant.on.grows is)
    c.in-Some.name.now c.in-Some.id c.in-Some.ensures c.args.max n (let a = c.loop-count-test.true in let h : c.loop-count._count < c.args.max = omega arith in h)
    (c.in-Err.ensures.need n (same_error c.in-Err.stop (stop.Need n) e))

pub loop-count-preserved : goal.loop-count-preserved
loop-count-preserved g c = record {
  on = on_both c.loop-count.invariant.on c.look.ensures.on;
  rows = λ dir is.
      one_child (g.V.View.held c.look.new.view) (g.V.View.shown c.loop-count.view) (g.V.View.shown c.look.new.view) dir (option_map (λ n. n.now) c.args.behind) c.loop-count._count (option_map (λ n. n.now) c.loop-count.last) c.loop-count.rows.items
      c.look.ensures.on.grows (children_as c.look.ensures.on.held_same (c.loop-count.invariant.rows dir is)) c.args.node.now
      (root_later (g.V.View.shown c.args.view.now) (g.V.View.shown c.loop-count.view) dir c.args.node.now c.loop-count.invariant.on.grows is)
      c.in-Some.name.now c.in-Some.id c.in-Some.ensures c.in-Ok.seen (record { seen = c.in-Ok.seen; names = c.in_ok-one_name-in-Some.field-0 }) _
      c.in-Ok.ensures.looks refl c.in_ok-one_name-in-Some.ensures c.in_ok-put_row-in-Some.ensures;
}

pub returns-in-None-clause-page : goal.returns-in-None-clause-page
returns-in-None-clause-page g c = λ dir is.
    children_ended (g.V.View.held c.loop-count.view) (g.V.View.shown c.loop-count.view) dir (option_map (λ n. n.now) c.args.behind) c.loop-count._count (option_map (λ n. n.now) c.loop-count.last) c.loop-count.rows.items
    (c.loop-count.invariant.rows dir is) c.args.node.now
    (root_later (g.V.View.shown c.args.view.now) (g.V.View.shown c.loop-count.view) dir c.args.node.now c.loop-count.invariant.on.grows is)
    c.args.max _ (let a = c.loop-count.auto._count-end in let h : c.loop-count._count ≤ c.args.max = omega arith in h) c.in-None.ensures c.new.ensures.items refl refl

pub returns-clause-page : goal.returns-clause-page
returns-clause-page g c = λ dir is.
    children_full (g.V.View.held c.loop-count.view) (g.V.View.shown c.loop-count.view) dir (option_map (λ n. n.now) c.args.behind) c.loop-count._count (option_map (λ n. n.now) c.loop-count.last) c.loop-count.rows.items
    (c.loop-count.invariant.rows dir is) c.args.node.now
    (root_later (g.V.View.shown c.args.view.now) (g.V.View.shown c.loop-count.view) dir c.args.node.now c.loop-count.invariant.on.grows is)
    c.args.max _ (option_map (λ c. (c.0.now, c.1.0)) c.child_above-2.result) c.requires.some
    (let a = c.loop-count-test.false in let b = c.loop-count.auto._count-end in let h : c.loop-count._count ≡ c.args.max = omega arith in h) c.child_above-2.ensures c.new-2.ensures.items refl
    (c.is_some-more.ensures ∙ some_as (λ c. (c.0.now, c.1.0)) c.child_above-2.result)
