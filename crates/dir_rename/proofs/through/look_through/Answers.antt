use Rattle.std.proofs.Common.{◌∷◌, ◌++◌, [], refl, ap, subst, ◌∙◌}
use Rattle.inode_tree.specs.declared.draft.EvalStop.TheVariants as stop
use Rattle.path_order.specs.Cursors.{IsNextSeen}
use Rattle.path_order.specs.PagesBelow.{last_of}
use Rattle.path_walk.proofs.CallLemmas.{on_both}
use Rattle.path_walk.proofs.StepLemmas.{same_error}
use Rattle.dir_rename.proofs.ThroughLemmas.{top_at, begins_so, ended, next_lacks, one_passed, passing_as}
use Rattle.dir_rename.proofs.through.look_through.Goals as goal

pub loop-count-init : goal.loop-count-init
loop-count-init g c = record {
  on = record { held_same = refl; over_same = refl; grows = λ stripe part e. e };
  passing = λ p is. begins_so (g.V.View.held c.args.view.now) (g.V.View.shown c.args.view.now) p c.args.room c.args.top _ _ _ is c.requires.looked
      (c.in_ok-push.ensures.items ∙ ap (λ l. l ++ c.args.top.id ∷ []) c.new-ids.ensures.items) c.is_overlong-too_long.ensures
      (c.start-cursor.ensures (g.V.View.shown c.args.view.now) p (top_at (g.V.View.shown c.args.view.now) p c.args.top is));
}

pub next-requires : goal.next-requires
next-requires g c =
    let p = c.requires.top.0 in
    let so = c.loop-count.invariant.passing p c.requires.top.1 in
    record { walk = (p, last_of p so.done, so.goes_on) }

pub returns-in-Ok-None-clause-on : goal.returns-in-Ok-None-clause-on
returns-in-Ok-None-clause-on g c = on_both c.loop-count.invariant.on c.next.ensures.on

pub returns-in-Ok-None-clause-through : goal.returns-in-Ok-None-clause-through
returns-in-Ok-None-clause-through g c = λ p is.
    ended (g.V.View.held c.next.new.view) (g.V.View.shown c.loop-count.view) (g.V.View.shown c.next.new.view) p c.args.room c.loop-count.cursor c.next.new.self c.loop-count.ids.items c.loop-count.too_long
    c.next.ensures.on.grows (passing_as c.next.ensures.on.held_same (c.loop-count.invariant.passing p is))
    (λ r k from. subst (λ o. IsNextSeen (g.V.View.held c.next.new.view) (g.V.View.shown c.next.new.view) r k c.next.new.self o) c.in-Ok-None.field-0-is (c.in-Ok-None.ensures.next r k from))
    _ refl refl

pub returns-in-Err-clause-on : goal.returns-in-Err-clause-on
returns-in-Err-clause-on g c = on_both c.loop-count.invariant.on c.next.ensures.on

pub returns-in-Err-clause-need : goal.returns-in-Err-clause-need
returns-in-Err-clause-need g c = λ n e p is.
    next_lacks (g.V.View.held c.next.new.view) (g.V.View.shown c.loop-count.view) (g.V.View.shown c.next.new.view) p c.args.room c.loop-count.cursor c.next.new.self c.loop-count.ids.items c.loop-count.too_long
    c.next.ensures.on.grows (passing_as c.next.ensures.on.held_same (c.loop-count.invariant.passing p is)) n
    (c.in-Err.ensures.need n (same_error c.in-Err.stop (stop.Need n) e))

pub returns-clause-on : goal.returns-clause-on
returns-clause-on g c = c.loop-count.invariant.on

pub returns-in_err-push-in-Ok-Some-clause-on : goal.returns-in_err-push-in-Ok-Some-clause-on
returns-in_err-push-in-Ok-Some-clause-on g c = on_both c.loop-count.invariant.on c.next.ensures.on

pub loop-count-preserved : goal.loop-count-preserved
loop-count-preserved g c = record {
  on = on_both c.loop-count.invariant.on c.next.ensures.on;
  passing = λ p is.
      one_passed (g.V.View.held c.next.new.view) (g.V.View.shown c.loop-count.view) (g.V.View.shown c.next.new.view) p c.args.room c.loop-count.cursor c.next.new.self c.loop-count.ids.items c.loop-count.too_long
      c.next.ensures.on.grows (passing_as c.next.ensures.on.held_same (c.loop-count.invariant.passing p is)) c.in-Ok-Some.seen
      (λ r k from. subst (λ o. IsNextSeen (g.V.View.held c.next.new.view) (g.V.View.shown c.next.new.view) r k c.next.new.self o) c.in-Ok-Some.field-0-is (c.in-Ok-Some.ensures.next r k from))
      _ c.in_ok-push-in-Ok-Some.ensures.items _ c.in_ok-too_long-in-Ok-Some.ensures;
}

pub returns-in_err-too_long-in-Ok-Some-clause-on : goal.returns-in_err-too_long-in-Ok-Some-clause-on
returns-in_err-too_long-in-Ok-Some-clause-on g c = on_both c.loop-count.invariant.on c.next.ensures.on
