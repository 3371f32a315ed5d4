use Rattle.std.proofs.Common.{◌≡◌, ◌<◌, ◌≤◌, refl, subst, arith}
use Rattle.inode_tree.specs.declared.draft.EvalStop.TheVariants as stop
use Rattle.path_walk.proofs.CallLemmas.{on_both}
use Rattle.path_walk.proofs.StepLemmas.{same_error}
use Rattle.path_order.specs.Cursors.{IsNextSeen}
use Rattle.path_order.proofs.PageLemmas.{walks_on}
use Rattle.path_listing.proofs.BelowLemmas.{no_rows, rows_as, one_row, rows_ended, rows_lack, rows_full}
use Rattle.path_listing.proofs.below.read_from.Goals as goal

pub loop-count-init : goal.loop-count-init
loop-count-init g c = record {
  on = record { held_same = refl; over_same = refl; grows = λ stripe part e. e };
  walk = c.requires.walk;
  rows = λ dir token is. no_rows (g.V.View.held c.args.view.now) (g.V.View.shown c.args.view.now) dir token c.args.start.cursor c.new-rows.result.items c.new-rows.ensures.items is;
}

pub returns-in-Ok-None-clause-page : goal.returns-in-Ok-None-clause-page
returns-in-Ok-None-clause-page g c = λ dir token is.
    rows_ended (g.V.View.held c.next.new.view) (g.V.View.shown c.loop-count.view) (g.V.View.shown c.next.new.view) dir token c.loop-count._count c.loop-count.cursor c.next.new.self c.loop-count.rows.items
    c.next.ensures.on.grows (rows_as c.loop-count.rows.items c.next.ensures.on.held_same (c.loop-count.invariant.rows dir token is)) c.args.max _ (let a = c.loop-count.auto._count-end in let h : c.loop-count._count ≤ c.args.max = omega arith in h)
    (λ r k from. subst (λ o. IsNextSeen (g.V.View.held c.next.new.view) (g.V.View.shown c.next.new.view) r k c.next.new.self o) c.in-Ok-None.field-0-is (c.in-Ok-None.ensures.next r k from)) refl refl

pub returns-in-Err-clause-need : goal.returns-in-Err-clause-need
returns-in-Err-clause-need g c = λ n e dir token is.
    rows_lack (g.V.View.held c.next.new.view) (g.V.View.shown c.loop-count.view) (g.V.View.shown c.next.new.view) dir token c.loop-count._count c.loop-count.cursor c.next.new.self c.loop-count.rows.items
    c.next.ensures.on.grows (rows_as c.loop-count.rows.items c.next.ensures.on.held_same (c.loop-count.invariant.rows dir token is)) c.args.max n (let a = c.loop-count-test.true in let h : c.loop-count._count < c.args.max = omega arith in h)
    (c.in-Err.ensures.need n (same_error c.in-Err.stop (stop.Need n) e))

pub loop-count-preserved : goal.loop-count-preserved
loop-count-preserved g c = record {
  on = on_both c.loop-count.invariant.on c.next.ensures.on;
  walk = walks_on (g.V.View.held c.next.new.view) (g.V.View.shown c.loop-count.view) (g.V.View.shown c.next.new.view) c.loop-count.cursor c.next.new.self c.in-Ok-Some.seen c.loop-count.invariant.walk
      (λ r k from. subst (λ o. IsNextSeen (g.V.View.held c.next.new.view) (g.V.View.shown c.next.new.view) r k c.next.new.self o) c.in-Ok-Some.field-0-is (c.in-Ok-Some.ensures.next r k from));
  rows = λ dir token is.
      one_row (g.V.View.held c.next.new.view) (g.V.View.shown c.loop-count.view) (g.V.View.shown c.next.new.view) dir token c.loop-count._count c.loop-count.cursor c.next.new.self c.loop-count.rows.items
      c.next.ensures.on.grows (rows_as c.loop-count.rows.items c.next.ensures.on.held_same (c.loop-count.invariant.rows dir token is)) c.in-Ok-Some.seen (record { seen = c.in-Ok-Some.seen; names = c.in_ok-names-in-Ok-Some.names }) _
      (λ r k from. subst (λ o. IsNextSeen (g.V.View.held c.next.new.view) (g.V.View.shown c.next.new.view) r k c.next.new.self o) c.in-Ok-Some.field-0-is (c.in-Ok-Some.ensures.next r k from))
      refl c.in_ok-names-in-Ok-Some.ensures c.in_ok-put_row-in-Ok-Some.ensures;
}

pub returns-clause-page : goal.returns-clause-page
returns-clause-page g c = λ dir token is.
    rows_full (g.V.View.held c.loop-count.view) (g.V.View.shown c.loop-count.view) dir token c.loop-count._count c.args.max c.loop-count.cursor c.loop-count.rows.items _ c.is_at_end-more.result c.requires.some
    (let a = c.loop-count-test.false in let b = c.loop-count.auto._count-end in let h : c.loop-count._count ≡ c.args.max = omega arith in h) (c.loop-count.invariant.rows dir token is) c.is_at_end-more.ensures refl refl
