use Rattle.std.proofs.Common.{◌≡◌, ◌<◌, ◌≤◌, refl, sym, subst, ◌∙◌, arith}
use Rattle.std.proofs.lemmas.Bool.{false≢true}
use Rattle.inode_tree.specs.declared.draft.EvalStop.TheVariants as stop
use Rattle.path_walk.proofs.CallLemmas.{on_both}
use Rattle.path_walk.proofs.StepLemmas.{same_error}
use Rattle.path_order.specs.Listings.{items_of}
use Rattle.acl_recursive.specs.Batched.{left_at, turns_of, IsEndOf, IsStepOf}
use Rattle.acl_recursive.proofs.BatchAnswers.{few, some_max, some_path, token_of_page}
use Rattle.acl_recursive.proofs.RunLemmas.{begins, failed_ends, one_more, run_ended, run_full, run_needs, running_as}
use Rattle.acl_recursive.proofs.TallyLemmas.{room_left}
use Rattle.acl_recursive.proofs.WalkLemmas.{ahead_as}
use Rattle.acl_recursive.proofs.run.take_turns.Goals.{else-failed-via-then-failed+else-not-asked, else-failed-via-else-failed}
use Rattle.acl_recursive.proofs.run.take_turns.Goals as goal

pub loop-count-init : goal.loop-count-init
loop-count-init g c = record {
  on = record { held_same = refl; over_same = refl; grows = λ stripe part e. e };
  running = begins c.args.call.now c.requires.call c.args.asked.now (g.V.View.held c.args.view.now) (g.V.View.shown c.args.view.now) c.args.walk c.new-tally.result c.requires.walk
      (c.new-tally.ensures (turns_of c.args.call.now c.args.asked.now) c.args.call.now.moment c.args.call.now.path.now);
}

pub take_turn-requires-clause-room : goal.take_turn-requires-clause-room
take_turn-requires-clause-room g c =
    let r = c.loop-count.invariant.running in
    room_left (turns_of c.args.call.now c.args.asked.now) c.args.call.now.moment c.args.call.now.path.now r.rows c.loop-count.tally c.loop-count._count r.tally_is
    (let a = r.long in omega (arith, a))
    (let a = c.loop-count-test.true in let b = few c.args.call.now c.requires.call c.args.asked.now c.requires.operation in omega (arith, a, b))

pub returns-in_err-failed-in-Ok-Some-clause-on : goal.returns-in_err-failed-in-Ok-Some-clause-on
returns-in_err-failed-in-Ok-Some-clause-on g c = on_both c.loop-count.invariant.on c.next.ensures.on

pub returns-in_err-next-in-Ok-Some-clause-on : goal.returns-in_err-next-in-Ok-Some-clause-on
returns-in_err-next-in-Ok-Some-clause-on g c = on_both c.loop-count.invariant.on c.next.ensures.on

pub returns-then-not-asked-clause-on : goal.returns-then-not-asked-clause-on
returns-then-not-asked-clause-on g c = on_both c.loop-count.invariant.on c.next.ensures.on

pub returns-then-not-asked-clause-run : goal.returns-then-not-asked-clause-run
returns-then-not-asked-clause-run g c =
    failed_ends c.args.call.now c.requires.call c.args.asked.now (g.V.View.held c.next.new.view) (g.V.View.shown c.loop-count.view) (g.V.View.shown c.next.new.view) c.loop-count._count c.loop-count.walk c.loop-count.tally (items_of c.loop-count.last)
    c.next.ensures.on.grows (running_as c.next.ensures.on.held_same c.loop-count.invariant.running) c.next.new.self c.in-Ok-Some.step c.take_turn.new.tally c.in_ok-failed-in-Ok-Some.failed
    (λ d f a. subst (λ o. IsStepOf (g.V.View.held c.next.new.view) (g.V.View.shown c.next.new.view) d f c.loop-count.walk c.next.new.self o) c.in-Ok-Some.field-0-is (c.in-Ok-Some.ensures.step d f (ahead_as (sym c.next.ensures.on.held_same) a)))
    c.in_ok-failed-in-Ok-Some.ensures.tally c.in_ok-failed-in-Ok-Some.ensures.failed _ c.if-failed.true c.if-not-asked.true
    (let a = c.loop-count-test.true in let h : c.loop-count._count < c.args.asked.now.max = omega arith in h) refl c.in_ok-next-in-Ok-Some.ensures
    (some_path c.args.call.now c.requires.call c.args.asked.now c.requires.operation) (token_of_page c.args.call.now c.requires.call c.args.asked.now c.requires.operation)

pub returns-in-Ok-None-clause-run : goal.returns-in-Ok-None-clause-run
returns-in-Ok-None-clause-run g c =
    run_ended c.args.call.now c.requires.call c.args.asked.now (g.V.View.held c.next.new.view) (g.V.View.shown c.loop-count.view) (g.V.View.shown c.next.new.view) c.loop-count._count c.loop-count.walk c.loop-count.tally (items_of c.loop-count.last)
    c.next.ensures.on.grows (running_as c.next.ensures.on.held_same c.loop-count.invariant.running) _
    (let a = c.loop-count.auto._count-end in let h : c.loop-count._count ≤ c.args.asked.now.max = omega arith in h)
    (λ d f a. subst (λ o. IsStepOf (g.V.View.held c.next.new.view) (g.V.View.shown c.next.new.view) d f c.loop-count.walk c.next.new.self o) c.in-Ok-None.field-0-is (c.in-Ok-None.ensures.step d f (ahead_as (sym c.next.ensures.on.held_same) a)))
    refl refl

pub returns-in-Err-clause-need : goal.returns-in-Err-clause-need
returns-in-Err-clause-need g c = λ n e.
    run_needs c.args.call.now c.requires.call c.args.asked.now (g.V.View.held c.next.new.view) (g.V.View.shown c.loop-count.view) (g.V.View.shown c.next.new.view) c.loop-count._count c.loop-count.walk c.loop-count.tally (items_of c.loop-count.last)
    c.next.ensures.on.grows (running_as c.next.ensures.on.held_same c.loop-count.invariant.running) n
    (let a = c.loop-count-test.true in let h : c.loop-count._count < c.args.asked.now.max = omega arith in h)
    (λ d f a. c.in-Err.ensures.need n (same_error c.in-Err.stop (stop.Need n) e) d f (ahead_as (sym c.next.ensures.on.held_same) a))

pub loop-count-preserved : goal.loop-count-preserved
loop-count-preserved g c = record {
  on = on_both c.loop-count.invariant.on c.next.ensures.on;
  running =
      one_more c.args.call.now c.requires.call c.args.asked.now (g.V.View.held c.next.new.view) (g.V.View.shown c.loop-count.view) (g.V.View.shown c.next.new.view) c.loop-count._count c.loop-count.walk c.loop-count.tally (items_of c.loop-count.last)
      c.next.ensures.on.grows (running_as c.next.ensures.on.held_same c.loop-count.invariant.running) c.next.new.self c.in-Ok-Some.step c.take_turn.new.tally c.in_ok-failed-in-Ok-Some.failed
      (λ d f a. subst (λ o. IsStepOf (g.V.View.held c.next.new.view) (g.V.View.shown c.next.new.view) d f c.loop-count.walk c.next.new.self o) c.in-Ok-Some.field-0-is (c.in-Ok-Some.ensures.step d f (ahead_as (sym c.next.ensures.on.held_same) a)))
      c.in_ok-failed-in-Ok-Some.ensures.tally c.in_ok-failed-in-Ok-Some.ensures.failed
      (λ f. elim c.else-failed.branch [
        | else-failed-via-then-failed+else-not-asked w ↦ absurd (false≢true (sym f ∙ w.if-not-asked.false))
        | else-failed-via-else-failed w ↦ w.if-failed.false
      ]);
}

pub returns-then-is_at_end-clause-run : goal.returns-then-is_at_end-clause-run
returns-then-is_at_end-clause-run g c =
    run_ended c.args.call.now c.requires.call c.args.asked.now (g.V.View.held c.loop-count.view) (g.V.View.shown c.loop-count.view) (g.V.View.shown c.loop-count.view) c.loop-count._count c.loop-count.walk c.loop-count.tally (items_of c.loop-count.last)
    (λ stripe part e. e) c.loop-count.invariant.running _
    (let a = c.loop-count.auto._count-end in let h : c.loop-count._count ≤ c.args.asked.now.max = omega arith in h)
    (λ d f a parts t stands agrees. subst (λ b. IsEndOf (left_at t d f c.loop-count.walk) b) c.if-is_at_end.true (c.is_at_end.ensures (g.V.View.held c.loop-count.view) (g.V.View.shown c.loop-count.view) d f a parts t stands agrees)) refl refl

pub returns-clause-run : goal.returns-clause-run
returns-clause-run g c =
    run_full c.args.call.now c.requires.call c.args.asked.now (g.V.View.held c.loop-count.view) (g.V.View.shown c.loop-count.view) (g.V.View.shown c.loop-count.view) c.loop-count._count c.loop-count.walk c.loop-count.tally (items_of c.loop-count.last)
    (λ stripe part e. e) c.loop-count.invariant.running _ (some_max c.args.call.now c.requires.call c.args.asked.now c.requires.operation)
    (let a = c.loop-count-test.false in let b = c.loop-count.auto._count-end in let h : c.loop-count._count ≡ c.args.asked.now.max = omega arith in h)
    (λ d f a parts t stands agrees. subst (λ b. IsEndOf (left_at t d f c.loop-count.walk) b) c.if-is_at_end.false (c.is_at_end.ensures (g.V.View.held c.loop-count.view) (g.V.View.shown c.loop-count.view) d f a parts t stands agrees)) refl c.in_ok-next.ensures
    (some_path c.args.call.now c.requires.call c.args.asked.now c.requires.operation) (token_of_page c.args.call.now c.requires.call c.args.asked.now c.requires.operation)
