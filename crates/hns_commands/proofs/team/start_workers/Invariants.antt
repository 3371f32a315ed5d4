use Rattle.std.proofs.Common.{◌≡◌, ◌++◌, length, map}
use Rattle.std.specs.Prelude.{All}
use Rattle.hns_commands.specs.Serves.{IsUnused}
use Rattle.hns_commands.proofs.team.start_workers.Given as goal

-- the passes are those of the workers, and those that are left; there is a clock for each of these
abbrev pub invariant-each : goal.invariant-each
invariant-each g l =
    (map (λ worker. worker.pass.pass) l.workers.items ++ l.passes.items ≡ l.fn.passes.items) × (length l.clocks.items ≡ length l.passes.items) × All IsUnused l.passes.items

abbrev pub decreases-each : goal.decreases-each
decreases-each g l = length l.passes.items
