use Rattle.std.proofs.Common.{◌≡◌, ◌-◌, ◌+◌, ℕ, subst, ◌∙◌, arith}
use Rattle.path_locks.specs.Narrow.{IsRound, AreNarrowedFrom}
use Rattle.path_locks.proofs.Below.{reheld_twice}
use Rattle.path_locks.proofs.Rounds.{round_ends, narrowed_next, narrowed_all, narrowed_is_held}
use Rattle.path_locks.proofs.steps.narrow.narrow_all.Goals as goal

pub loop-done-preserved : goal.loop-done-preserved
loop-done-preserved g c =
    let i = c.loop-done.invariant in
    let next : 63 - c.loop-done.done ≡ 64 - (c.loop-done.done + 1) = omega arith in
    let more : 64 - c.loop-done.done ≡ 63 - c.loop-done.done + 1 = omega (arith, c.loop-done-test.true) in
    record {
      own = c.narrow_stripe.ensures.own.0 ∙ i.own;
      id = c.narrow_stripe.ensures.own.1 ∙ i.id;
      round = subst (λ (n : ℕ). IsRound g.P.Parted.object g.P.Parted.bare n c.narrow_stripe.new.seat.me c.narrow_stripe.new.parts.items) next c.narrow_stripe.ensures.round;
      narrowed = subst (λ (n : ℕ). AreNarrowedFrom n c.args.keep.now c.args.seat.now.me.0.at.holds c.narrow_stripe.new.seat.me.0.at.holds) next
          (narrowed_next c.args.keep.now c.args.seat.now.me.0.at.holds (63 - c.loop-done.done) (64 - c.loop-done.done) _ c.loop-done.seat.me.0 c.narrow_stripe.new.seat.me.0 more i.narrowed
          c.mode-kept.ensures c.narrow_stripe.ensures.narrowed c.narrow_stripe.ensures.held);
      same = reheld_twice c.args.seat.now.me.0 c.loop-done.seat.me.0 c.narrow_stripe.new.seat.me.0 i.same c.narrow_stripe.ensures.narrowed.same;
    }

pub returns-clause-holds : goal.returns-clause-holds
returns-clause-holds g c =
    let i = c.loop-done.invariant in
    let end : 64 - c.loop-done.done ≡ 0 = omega (arith, c.loop-done.auto.done-end, c.loop-done-test.false) in
    round_ends g.P.Parted.object g.P.Parted.bare _ _
    (subst (λ (n : ℕ). IsRound g.P.Parted.object g.P.Parted.bare n c.loop-done.seat.me c.loop-done.parts.items) end i.round)

pub returns-clause-held : goal.returns-clause-held
returns-clause-held g c =
    let i = c.loop-done.invariant in
    let end : 64 - c.loop-done.done ≡ 0 = omega (arith, c.loop-done.auto.done-end, c.loop-done-test.false) in
    narrowed_is_held c.args.keep.now c.args.seat.now.me.0.at.holds c.loop-done.seat.me.0.at.holds (subst (λ (n : ℕ). AreNarrowedFrom n c.args.keep.now c.args.seat.now.me.0.at.holds c.loop-done.seat.me.0.at.holds) end i.narrowed)

pub returns-clause-narrowed : goal.returns-clause-narrowed
returns-clause-narrowed g c =
    let i = c.loop-done.invariant in
    let end : 64 - c.loop-done.done ≡ 0 = omega (arith, c.loop-done.auto.done-end, c.loop-done-test.false) in
    narrowed_all c.args.keep.now c.args.seat.now.me.0.at.holds c.loop-done.seat.me.0.at.holds (subst (λ (n : ℕ). AreNarrowedFrom n c.args.keep.now c.args.seat.now.me.0.at.holds c.loop-done.seat.me.0.at.holds) end i.narrowed)
