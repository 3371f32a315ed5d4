use Rattle.std.proofs.Common.{refl, ap, subst, ◌++◌, ◌∷◌, [], ◌∙◌}
use Rattle.inode_tree.specs.declared.draft.EvalStop.TheVariants as stop
use Rattle.path_walk.proofs.CallLemmas.{on_both}
use Rattle.path_walk.proofs.StepLemmas.{same_error}
use Rattle.path_order.specs.Cursors.{IsNextSeen, names_of}
use Rattle.path_order.specs.PagesBelow.{last_of}
use Rattle.path_order.proofs.WholeLemmas.{top_at}
use Rattle.op_delete.proofs.ClearLemmas.{at_later, top_later, begins_so, clearing_as, ended, next_lacks, next_at, one_asked, needs_above}
use Rattle.op_delete.proofs.clear.look_through.Goals as goal

pub ask_node-requires-clause-node : goal.ask_node-requires-clause-node
ask_node-requires-clause-node g c = top_at (g.V.View.shown c.args.view.now) c.args.path.now c.args.top c.args.top.node refl c.requires.top

pub loop-count-init : goal.loop-count-init
loop-count-init g c = record {
  on = c.ask_node.ensures.on;
  clearing = begins_so (g.V.View.held c.ask_node.new.view) (g.V.View.shown c.args.view.now) (g.V.View.shown c.ask_node.new.view) c.args.caller.now c.args.path.now c.args.top _ _ _ c.ask_node.ensures.on.grows c.requires.top
      (top_later c.ask_node.ensures.on c.args.top.id c.requires.looked) (c.in_ok-push.ensures.items ∙ ap (λ l. l ++ c.args.top.id ∷ []) c.new-taken.ensures.items) c.in-Ok.ensures.asks
      (c.start-cursor.ensures (g.V.View.shown c.ask_node.new.view) c.args.path.now
      (at_later (g.V.View.shown c.args.view.now) (g.V.View.shown c.ask_node.new.view) c.args.path.now c.args.top.node c.ask_node.ensures.on.grows (top_at (g.V.View.shown c.args.view.now) c.args.path.now c.args.top c.args.top.node refl c.requires.top)));
}

pub next-requires : goal.next-requires
next-requires g c = record { walk = (c.args.path.now, last_of c.args.path.now c.loop-count.invariant.clearing.done, c.loop-count.invariant.clearing.goes_on) }

pub ask_seen-requires-clause-node : goal.ask_seen-requires-clause-node
ask_seen-requires-clause-node g c =
    next_at (g.V.View.held c.next.new.view) (g.V.View.shown c.loop-count.view) (g.V.View.shown c.next.new.view) c.args.caller.now c.args.path.now c.loop-count.cursor c.next.new.self c.loop-count.taken.items c.loop-count.refused
    c.next.ensures.on.grows (clearing_as c.next.ensures.on.held_same c.loop-count.invariant.clearing) c.in-Ok-Some.seen
    (λ r k from. subst (λ o. IsNextSeen (g.V.View.held c.next.new.view) (g.V.View.shown c.next.new.view) r k c.next.new.self o) c.in-Ok-Some.field-0-is (c.in-Ok-Some.ensures.next r k from))

pub returns-in-Ok-None-clause-cleared : goal.returns-in-Ok-None-clause-cleared
returns-in-Ok-None-clause-cleared g c =
    ended (g.V.View.held c.next.new.view) (g.V.View.shown c.loop-count.view) (g.V.View.shown c.next.new.view) c.args.caller.now c.args.path.now c.loop-count.cursor c.next.new.self c.loop-count.taken.items c.loop-count.refused
    c.next.ensures.on.grows (clearing_as c.next.ensures.on.held_same c.loop-count.invariant.clearing)
    (λ r k from. subst (λ o. IsNextSeen (g.V.View.held c.next.new.view) (g.V.View.shown c.next.new.view) r k c.next.new.self o) c.in-Ok-None.field-0-is (c.in-Ok-None.ensures.next r k from))
    _ refl refl

pub returns-in-Err-clause-need : goal.returns-in-Err-clause-need
returns-in-Err-clause-need g c = λ n e. c.in-Err.ensures.need n (same_error c.in-Err.stop (stop.Need n) e)

pub returns-in_err-push-in-Ok-Some-clause-on : goal.returns-in_err-push-in-Ok-Some-clause-on
returns-in_err-push-in-Ok-Some-clause-on g c = on_both c.loop-count.invariant.on c.next.ensures.on

pub returns-in-Err-ask_seen-clause-on : goal.returns-in-Err-ask_seen-clause-on
returns-in-Err-ask_seen-clause-on g c = on_both c.loop-count.invariant.on (on_both c.next.ensures.on c.ask_seen.ensures.on)

pub returns-in-Err-ask_seen-clause-need : goal.returns-in-Err-ask_seen-clause-need
returns-in-Err-ask_seen-clause-need g c = λ n e.
    needs_above (g.V.View.held c.ask_seen.new.view) (g.V.View.shown c.ask_seen.new.view) c.args.path.now (names_of c.next.new.self) n
    (c.in-Err-ask_seen.ensures.need n (same_error c.in-Err-ask_seen.stop (stop.Need n) e))

pub returns-in-Ok-None-clause-on : goal.returns-in-Ok-None-clause-on
returns-in-Ok-None-clause-on g c = on_both c.loop-count.invariant.on c.next.ensures.on

pub returns-in-Err-next-clause-on : goal.returns-in-Err-next-clause-on
returns-in-Err-next-clause-on g c = on_both c.loop-count.invariant.on c.next.ensures.on

pub returns-in-Err-next-clause-need : goal.returns-in-Err-next-clause-need
returns-in-Err-next-clause-need g c = λ n e.
    next_lacks (g.V.View.held c.next.new.view) (g.V.View.shown c.loop-count.view) (g.V.View.shown c.next.new.view) c.args.caller.now c.args.path.now c.loop-count.cursor c.next.new.self c.loop-count.taken.items c.loop-count.refused
    c.next.ensures.on.grows (clearing_as c.next.ensures.on.held_same c.loop-count.invariant.clearing) n
    (c.in-Err-next.ensures.need n (same_error c.in-Err-next.stop (stop.Need n) e))

pub returns-clause-on : goal.returns-clause-on
returns-clause-on g c = c.loop-count.invariant.on

pub loop-count-preserved : goal.loop-count-preserved
loop-count-preserved g c = record {
  on = on_both c.loop-count.invariant.on (on_both c.next.ensures.on c.ask_seen.ensures.on);
  clearing = clearing_as c.ask_seen.ensures.on.held_same
      (one_asked (g.V.View.held c.next.new.view) (g.V.View.shown c.loop-count.view) (g.V.View.shown c.next.new.view) c.args.caller.now c.args.path.now c.loop-count.cursor c.next.new.self c.loop-count.taken.items c.loop-count.refused
      c.next.ensures.on.grows (clearing_as c.next.ensures.on.held_same c.loop-count.invariant.clearing) c.in-Ok-Some.seen
      (λ r k from. subst (λ o. IsNextSeen (g.V.View.held c.next.new.view) (g.V.View.shown c.next.new.view) r k c.next.new.self o) c.in-Ok-Some.field-0-is (c.in-Ok-Some.ensures.next r k from))
      (g.V.View.shown c.ask_seen.new.view) c.ask_seen.ensures.on.grows _ c.in_ok-push-in-Ok-Some.ensures.items _ _ c.in-Ok-ask_seen.ensures.asks c.first_of-refused.ensures);
}
