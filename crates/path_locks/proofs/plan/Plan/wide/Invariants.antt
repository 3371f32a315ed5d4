use Rattle.std.proofs.Common.{◌≡◌, ◌*◌, ◌≤◌, take, sum_by}
use Rattle.path_locks.specs.Plans.{width}
use Rattle.path_locks.proofs.plan.Plan.wide.Given as goal

abbrev pub invariant-loop-mode : goal.invariant-loop-mode
invariant-loop-mode l = (l.wide ≡ sum_by width (take l.mode-index l.self)) × (l.wide ≤ 2 * l.mode-index)
