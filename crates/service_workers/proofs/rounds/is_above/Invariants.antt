use Rattle.std.proofs.Common.{◌≡◌, ℕ, ◌≤◌, ◌<◌}
use Rattle.std.specs.Prelude.{Some, slice_get}
use Rattle.lock_core.specs.declared.object.LockMode.TheVariants as mode
use Rattle.service_workers.proofs.rounds.is_above.Given as goal

abbrev pub invariant-loop-at : goal.invariant-loop-at
invariant-loop-at l = (l.stripe ≤ l.at) × ((k : ℕ) → l.stripe ≤ k → k < l.at → slice_get l.plan k ≡ Some mode.None)
