use Rattle.std.proofs.Common.{ℕ, ◌<◌}
use Rattle.lock_core.specs.Marks.{mark_at, IsNotedMark}
use Rattle.lock_core.proofs.marks.Glance.is_noted.Given as goal

abbrev pub invariant-loop-at : goal.invariant-loop-at
invariant-loop-at l = (k : ℕ) → k < l.at → IsNotedMark (mark_at l.self.marks k)
