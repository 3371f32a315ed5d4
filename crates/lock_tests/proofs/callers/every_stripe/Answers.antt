use Rattle.std.proofs.Common.{List, length, length-set, ap, ◌∙◌, arith}
use Rattle.lock_core.specs.declared.object.LockMode.{LockMode}
use Rattle.lock_core.specs.declared.object.LockMode.TheVariants as mode
use Rattle.lock_tests.proofs.Tallying.{none_long, more_planned}
use Rattle.lock_tests.proofs.callers.every_stripe.Goals as goal

pub loop-stripe-init : goal.loop-stripe-init
loop-stripe-init c = record { long = none_long _ c.none-plan.ensures; below = λ k h. absurd (omega arith) }

pub loop-stripe-preserved : goal.loop-stripe-preserved
loop-stripe-preserved c = record {
  long = ap (λ (l : List LockMode). length l) c.set.ensures ∙ length-set c.loop-stripe.plan c.loop-stripe.stripe mode.Exclusive ∙ c.loop-stripe.invariant.long;
  below = more_planned c.loop-stripe.plan _ c.loop-stripe.stripe c.loop-stripe-test.true c.loop-stripe.invariant.long c.loop-stripe.invariant.below c.set.ensures;
}
