use Rattle.std.proofs.Common.{◌≤◌, ◌∙◌, ap, sym, subst, arith}
use Rattle.conn_io.specs.Moments.{HasTicked}
use Rattle.striped_store.specs.declared.receipt.Receipt.{Receipt}
use Rattle.serving.proofs.MomentLemmas.{ticked-more}
use Rattle.service_workers.specs.Rounds.{IsHolding}
use Rattle.service_workers.proofs.RoundEndLemmas.{commits_from}
use Rattle.service_workers.proofs.RoundLemmas.{round_next, no_more_rounds}
use Rattle.service_workers.proofs.SubmitLemmas.{submits}
use Rattle.service_workers.proofs.service.Service.submit.Goals as goal

pub returns-in-Answered-clause-ok : goal.returns-in-Answered-clause-ok
returns-in-Answered-clause-ok g c =
    let answered = c.in-Answered.ensures.ended in
    let says = submits c.args.pass.now c.play_round.new.pass (g.C.Clock.ahead c.args.clock.now) (g.C.Clock.ahead c.loop-done.clock) c.args.asked c.loop-done.asked c.loop-done.done answered.moment
    c.in-Answered.answer c.with_rounds.result c.loop-done.invariant.ticked answered.foretold c.loop-done.invariant.asks c.with_rounds.ensures.bytes c.with_rounds.ensures.mark c.with_rounds.ensures.receipt
    (commits_from c.args.pass.now c.loop-done.pass c.play_round.new.pass c.loop-done.invariant.round.holding _ c.in-Answered.answer answered.commits) in
    record { moment = answered.moment; foretold = says.0; in_range = answered.in_range; commits = says.1 }

pub returns-in-Answered-clause-ticked : goal.returns-in-Answered-clause-ticked
returns-in-Answered-clause-ticked g c =
    subst (λ n. HasTicked (g.C.Clock.ahead c.args.clock.now) (g.C.Clock.ahead c.play_round.new.clock) n) (sym (ap (λ (r : Receipt). r.rounds) c.with_rounds.ensures.receipt))
    (ticked-more (g.C.Clock.ahead c.args.clock.now) (g.C.Clock.ahead c.loop-done.clock) (g.C.Clock.ahead c.play_round.new.clock) c.loop-done.done 1 c.loop-done.invariant.ticked c.in-Answered.ensures.ticked)

pub loop-done-preserved : goal.loop-done-preserved
loop-done-preserved g c =
    let lacking = c.in-Lacks.ensures.ended in
    record {
      round = round_next c.args.self.now c.args.pass.now c.loop-done.pass c.play_round.new.pass c.raise-holding.new.pass c.loop-done.holding.held c.in-Lacks.held.held c.raise-holding.result.held
          c.loop-done.holding.plan c.in-Lacks.held.plan c.raise-holding.result.plan c.loop-done.done c.in-Lacks.need c.loop-done.invariant.round lacking.plan lacking.holds lacking.within lacking.lacks
          (subst (λ s. IsHolding s c.play_round.new.pass c.raise-holding.new.pass c.raise-holding.result.held c.raise-holding.result.plan) c.self.view_is c.raise-holding.ensures.holding)
          c.raise-holding.ensures.plan;
      asks = lacking.asks ∙ c.loop-done.invariant.asks;
      ticked = ticked-more (g.C.Clock.ahead c.args.clock.now) (g.C.Clock.ahead c.loop-done.clock) (g.C.Clock.ahead c.play_round.new.clock) c.loop-done.done 1 c.loop-done.invariant.ticked c.in-Lacks.ensures.ticked;
    }

pub unreachable-requires : goal.unreachable-requires
unreachable-requires g c =
    let most : c.loop-done.done ≤ 128 = no_more_rounds c.args.self.now c.args.pass.now c.loop-done.pass c.loop-done.holding.held c.loop-done.holding.plan c.loop-done.done c.loop-done.invariant.round in
    omega (arith, most, c.loop-done-test.false)
