use Rattle.std.proofs.Common.{◌≡◌, ℕ, ◌<◌, slice_get, Some}
use Rattle.lock_core.specs.declared.object.LockMode.{LockMode}
use Rattle.lock_core.specs.Marks.{mark_at, MarkedIn}
use Rattle.lock_core.proofs.marks.Glance.holds_as.Given as goal

abbrev pub invariant-loop-at : goal.invariant-loop-at
invariant-loop-at l = (k : ℕ) (m : LockMode) → k < l.at → slice_get l.modes k ≡ Some m → MarkedIn m (mark_at l.self.marks k)
