use Rattle.std.proofs.Common.{refl, sym, subst}
use Rattle.inode_tree.specs.declared.draft.EvalStop.TheVariants as stop
use Rattle.path_walk.proofs.StepLemmas.{same_error}
use Rattle.path_order.specs.Cursors.{IsNextSeen}
use Rattle.acl_recursive.proofs.WalkLemmas.{ahead_as, first_step, next_none, next_needs, next_step}
use Rattle.acl_recursive.proofs.walk.Walk.next.Goals as goal

pub returns-in-Some-clause-step : goal.returns-in-Some-clause-step
returns-in-Some-clause-step g c = λ dir from ahead.
    first_step (g.V.View.held c.args.view.now) (g.V.View.shown c.args.view.now) dir from c.args.self.now _ c.in-Some.seen _ (sym c.in-Some.ensures.value) c.take.ensures.after refl refl c.new.ensures.items ahead

pub returns-in_ok-names-in-Ok-Some-clause-step : goal.returns-in_ok-names-in-Ok-Some-clause-step
returns-in_ok-names-in-Ok-Some-clause-step g c = λ dir from ahead.
    next_step (g.V.View.held c.next.new.view) (g.V.View.shown c.args.view.now) (g.V.View.shown c.next.new.view) dir from c.args.self.now c.next.ensures.on.grows (sym c.in_default.ensures.value) (ahead_as c.next.ensures.on.held_same ahead) _ c.in-Ok-Some.seen _ c.take.ensures.after
    (λ d k is. subst (λ o. IsNextSeen (g.V.View.held c.next.new.view) (g.V.View.shown c.next.new.view) d k c.next.new.self o) c.in-Ok-Some.field-0-is (c.in-Ok-Some.ensures.next d k is)) refl c.in_ok-names-in-Ok-Some.ensures

pub returns-in-Ok-None-clause-step : goal.returns-in-Ok-None-clause-step
returns-in-Ok-None-clause-step g c = λ dir from ahead.
    next_none (g.V.View.held c.next.new.view) (g.V.View.shown c.args.view.now) (g.V.View.shown c.next.new.view) dir from c.args.self.now c.next.ensures.on.grows (sym c.in_default.ensures.value) (ahead_as c.next.ensures.on.held_same ahead) c.next.new.self
    (λ d k is. subst (λ o. IsNextSeen (g.V.View.held c.next.new.view) (g.V.View.shown c.next.new.view) d k c.next.new.self o) c.in-Ok-None.field-0-is (c.in-Ok-None.ensures.next d k is))

pub returns-in-Err-clause-need : goal.returns-in-Err-clause-need
returns-in-Err-clause-need g c = λ n e dir from ahead.
    next_needs (g.V.View.held c.next.new.view) (g.V.View.shown c.args.view.now) (g.V.View.shown c.next.new.view) dir from c.args.self.now c.next.ensures.on.grows (sym c.in_default.ensures.value) (ahead_as c.next.ensures.on.held_same ahead) n
    (λ d k is. c.in-Err.ensures.need n (same_error c.in-Err.stop (stop.Need n) e) d k is)
