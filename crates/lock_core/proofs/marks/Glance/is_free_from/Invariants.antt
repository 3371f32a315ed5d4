use Rattle.std.proofs.Common.{ℕ, ◌<◌, ◌≤◌}
use Rattle.lock_core.specs.declared.object.LockMode.TheVariants as mode
use Rattle.lock_core.specs.Marks.{mark_at, MarkedIn}
use Rattle.lock_core.proofs.marks.Glance.is_free_from.Given as goal

abbrev pub invariant-loop-at : goal.invariant-loop-at
invariant-loop-at l = (k : ℕ) → l.stripe ≤ k → k < l.at → MarkedIn mode.None (mark_at l.self.marks k)
