use Rattle.std.proofs.Common.{arith, rules, w64}
use Rattle.std.proofs.lemmas.Nat.Bits.{bit_at-trailing_zeros}
use Rattle.engine.specs.Stripes.{applied_where}
use Rattle.engine.proofs.StripeLemmas.{left_less, changed_none, changed_all, idle_where, applied_next, still_ready}
use Rattle.engine.proofs.stripes.apply_written.Goals as goal

pub each-init : goal.each-init
each-init c =
    changed_none (applied_where c.args.written c.args.number c.args.changes.now) c.args.written c.args.stripes.now
    (λ k stripe part free. idle_where c.args.written c.args.number c.args.changes.now k stripe part free)

pub each-preserved : goal.each-preserved
each-preserved c =
    let lowest = bit_at-trailing_zeros w64 c.each.left (omega arith) (search rules) in
    applied_next c.args.written c.args.number c.args.changes.now c.each.left _ c.args.stripes.now c.each.stripes _ c.apply.new.self lowest.0 lowest.1 c.requires.long c.each.invariant
    c.apply.ensures.stripe c.apply.ensures.part

pub apply-requires : goal.apply-requires
apply-requires c =
    let lowest = bit_at-trailing_zeros w64 c.each.left (omega arith) (search rules) in
    still_ready (applied_where c.args.written c.args.number c.args.changes.now) c.args.written c.each.left _ c.args.stripes.now c.each.stripes c.args.changes.now _ lowest.0 lowest.1 c.requires.long
    c.requires.ready c.each.invariant

pub returns : goal.returns
returns c = changed_all (applied_where c.args.written c.args.number c.args.changes.now) c.args.written c.each.left c.args.stripes.now c.each.stripes c.each-test.false c.each.invariant

pub each-smaller : goal.each-smaller
each-smaller c =
    let lowest = bit_at-trailing_zeros w64 c.each.left (omega arith) (search rules) in
    left_less c.each.left _ lowest.0 lowest.1
