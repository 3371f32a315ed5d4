use Rattle.std.proofs.Common.{refl, arith, rules, w64}
use Rattle.std.proofs.lemmas.Nat.Bits.{bit_at-trailing_zeros}
use Rattle.engine.proofs.StripeLemmas.{left_less, cleared, changed_none, kept_next, ready_next, ready_none, ready_all, same_stop}
use Rattle.engine.proofs.stripes.reserve_written.Goals as goal

pub each-init : goal.each-init
each-init c = record {
  same = changed_none (λ place stripe part. part) c.args.written c.args.stripes.now (λ k stripe part free. refl);
  ready = ready_none c.args.written c.args.stripes.now c.args.changes.now;
}

pub each-preserved : goal.each-preserved
each-preserved c =
    let lowest = bit_at-trailing_zeros w64 c.each.left (omega arith) (search rules) in
    record {
      same = kept_next c.args.written c.each.left _ c.args.stripes.now c.each.stripes _ c.reserve.new.self lowest.0 lowest.1 c.requires c.each.invariant.same c.reserve.ensures.stripe c.reserve.ensures.part;
      ready = ready_next c.args.written c.each.left _ _ c.each.stripes c.reserve.new.self c.args.changes.now (omega (arith, c.each.invariant.same.long, c.requires)) lowest.0 (cleared c.each.left _ lowest.0)
          c.each.invariant.ready c.in_ok-reserve.ensures.ready;
    }

pub returns-in_err-reserve-clause-same : goal.returns-in_err-reserve-clause-same
returns-in_err-reserve-clause-same c =
    let lowest = bit_at-trailing_zeros w64 c.each.left (omega arith) (search rules) in
    same_stop c.args.written _ c.args.stripes.now _ c.requires
    (kept_next c.args.written c.each.left _ c.args.stripes.now c.each.stripes _ c.reserve.new.self lowest.0 lowest.1 c.requires c.each.invariant.same c.reserve.ensures.stripe c.reserve.ensures.part)

pub returns-clause-ready : goal.returns-clause-ready
returns-clause-ready c = ready_all c.args.written c.each.left c.each.stripes c.args.changes.now c.each-test.false c.each.invariant.ready

pub returns-clause-same : goal.returns-clause-same
returns-clause-same c = same_stop c.args.written c.each.left c.args.stripes.now c.each.stripes c.requires c.each.invariant.same

pub each-smaller : goal.each-smaller
each-smaller c =
    let lowest = bit_at-trailing_zeros w64 c.each.left (omega arith) (search rules) in
    left_less c.each.left _ lowest.0 lowest.1
