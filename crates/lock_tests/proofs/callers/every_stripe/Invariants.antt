use Rattle.std.proofs.Common.{◌≡◌, ℕ, ◌<◌, length, slice_get, Some}
use Rattle.lock_core.specs.declared.object.LockMode.TheVariants as mode
use Rattle.lock_tests.proofs.callers.every_stripe.Given as goal

abbrev pub invariant-loop-stripe : goal.invariant-loop-stripe
invariant-loop-stripe l = record {
  long : length l.plan ≡ 64;
  below : (k : ℕ) → k < l.stripe → slice_get l.plan k ≡ Some mode.Exclusive;
}
