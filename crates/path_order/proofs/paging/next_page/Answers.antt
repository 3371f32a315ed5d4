use Rattle.std.proofs.Common.{◌≡◌, ◌+◌, ◌<◌, ◌≤◌, refl, sym, subst, arith}
use Rattle.inode_tree.specs.declared.draft.EvalStop.TheVariants as stop
use Rattle.path_walk.proofs.CallLemmas.{on_both}
use Rattle.path_walk.proofs.StepLemmas.{same_error}
use Rattle.path_order.specs.Cursors.{IsNextSeen}
use Rattle.path_order.proofs.PageLemmas.{IsPaging, paging_as, one_more, page_ended, page_needs, page_full, walks_on}
use Rattle.path_order.proofs.paging.next_page.Goals as goal

pub returns-in-Ok-None-clause-page : goal.returns-in-Ok-None-clause-page
returns-in-Ok-None-clause-page g c = λ root token is.
    page_ended (g.V.View.held c.next.new.view) (g.V.View.held c.next.new.view) (g.V.View.shown c.loop-count.view) (g.V.View.shown c.next.new.view) root token c.loop-count._count c.loop-count.cursor c.next.new.self c.loop-count.seen.items
    refl c.next.ensures.on.grows (paging_as c.next.ensures.on.held_same (c.loop-count.invariant.paging root token is)) c.args.max _ (let a = c.loop-count.auto._count-end in let h : c.loop-count._count ≤ c.args.max = omega arith in h) (λ r k from. subst (λ o. IsNextSeen (g.V.View.held c.next.new.view) (g.V.View.shown c.next.new.view) r k c.next.new.self o) c.in-Ok-None.field-0-is (c.in-Ok-None.ensures.next r k from)) refl refl

pub returns-in-Err-clause-need : goal.returns-in-Err-clause-need
returns-in-Err-clause-need g c = λ n e root token is.
    page_needs (g.V.View.held c.next.new.view) (g.V.View.held c.next.new.view) (g.V.View.shown c.loop-count.view) (g.V.View.shown c.next.new.view) root token c.loop-count._count c.loop-count.cursor c.next.new.self c.loop-count.seen.items
    refl c.next.ensures.on.grows (paging_as c.next.ensures.on.held_same (c.loop-count.invariant.paging root token is)) c.args.max n (let a = c.loop-count-test.true in let h : c.loop-count._count < c.args.max = omega arith in h)
    (c.in-Err.ensures.need n (same_error c.in-Err.stop (stop.Need n) e))

pub loop-count-preserved : goal.loop-count-preserved
loop-count-preserved g c = record {
  on = on_both c.loop-count.invariant.on c.next.ensures.on;
  walk = walks_on (g.V.View.held c.next.new.view) (g.V.View.shown c.loop-count.view) (g.V.View.shown c.next.new.view) c.loop-count.cursor c.next.new.self c.in-Ok-Some.node c.loop-count.invariant.walk (λ r k from. subst (λ o. IsNextSeen (g.V.View.held c.next.new.view) (g.V.View.shown c.next.new.view) r k c.next.new.self o) c.in-Ok-Some.field-0-is (c.in-Ok-Some.ensures.next r k from));
  paging = λ root token is.
      subst (λ l. IsPaging (g.V.View.held c.next.new.view) (g.V.View.shown c.next.new.view) root token (c.loop-count._count + 1) c.next.new.self l) (sym c.in_ok-push-in-Ok-Some.ensures.items)
      (one_more (g.V.View.held c.next.new.view) (g.V.View.held c.next.new.view) (g.V.View.shown c.loop-count.view) (g.V.View.shown c.next.new.view) root token c.loop-count._count c.loop-count.cursor c.next.new.self c.loop-count.seen.items
      refl c.next.ensures.on.grows (paging_as c.next.ensures.on.held_same (c.loop-count.invariant.paging root token is)) c.in-Ok-Some.node (λ r k from. subst (λ o. IsNextSeen (g.V.View.held c.next.new.view) (g.V.View.shown c.next.new.view) r k c.next.new.self o) c.in-Ok-Some.field-0-is (c.in-Ok-Some.ensures.next r k from)));
}

pub returns-clause-page : goal.returns-clause-page
returns-clause-page g c = λ root token is.
    page_full (g.V.View.held c.loop-count.view) (g.V.View.shown c.loop-count.view) root token c.loop-count._count c.args.max c.loop-count.cursor c.loop-count.seen.items _ c.is_at_end-more.result c.requires.some
    (let a = c.loop-count-test.false in let b = c.loop-count.auto._count-end in let h : c.loop-count._count ≡ c.args.max = omega arith in h) (c.loop-count.invariant.paging root token is) c.is_at_end-more.ensures refl refl
