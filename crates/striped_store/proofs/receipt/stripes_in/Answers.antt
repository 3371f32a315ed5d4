use Rattle.std.proofs.Common.{rules, sym, ◌∙◌}
use denote.Enum.Bare.{same_true, same_false}
use Rattle.lock_core.specs.contracts.object.LockMode.{the_type}
use Rattle.striped_store.proofs.Bits.{bits_none, bits_set, bits_left}
use Rattle.striped_store.proofs.receipt.stripes_in.Goals as goal
use Rattle.striped_store.proofs.receipt.stripes_in.Goals.{then-eq, else-eq}

pub loop-stripe-init : goal.loop-stripe-init
loop-stripe-init c = bits_none c.args.plan.now c.args.mode

pub loop-stripe-preserved : goal.loop-stripe-preserved
loop-stripe-preserved c = elim c.if-eq.branch [
  | then-eq w ↦ bits_set c.args.plan.now c.args.mode c.mode.result c.loop-stripe.stripe c.loop-stripe.bits c.if-eq.bits c.loop-stripe-test.true c.mode.ensures c.loop-stripe.invariant
      (same_true the_type (search rules) _ _ (sym c.eq.ensures ∙ w.if-eq.true)) w.bits-is
  | else-eq w ↦ bits_left c.args.plan.now c.args.mode c.mode.result c.loop-stripe.stripe c.loop-stripe.bits c.if-eq.bits c.loop-stripe-test.true c.mode.ensures c.loop-stripe.invariant
      (same_false the_type _ _ (sym c.eq.ensures ∙ w.if-eq.false)) w.bits-is
]
