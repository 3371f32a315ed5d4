use Rattle.std.proofs.Common.{◌≡◌, ◌+◌, ◌*◌, ◌≤◌, ◌++◌, length, map}
use Rattle.std.specs.Prelude.{All}
use Rattle.reply_marks.specs.Tallies.{total_of}
use Rattle.conn_workers.specs.Counted.{tally_by, OwnsWhatItSaw}
use Rattle.hns_commands.proofs.team.stop_workers.Given as goal

-- the passes are those that were taken, and those of the workers that are left; the total is that of the taken ones
abbrev pub invariant-each : goal.invariant-each
invariant-each g l =
    (l.passes.items ++ map (λ worker. worker.pass.pass) l.workers.items ≡ map (λ worker. worker.pass.pass) l.fn.workers.items) × (l.total ≡ total_of (map tally_by l.passes.items))
    × (length l.passes.items + length l.workers.items ≤ 64) × (l.total.ok ≤ 4194304 * length l.passes.items) × (l.total.refused ≤ 4194304 * length l.passes.items)
    × (l.total.denied ≤ 4194304 * length l.passes.items) × All OwnsWhatItSaw l.passes.items

abbrev pub decreases-each : goal.decreases-each
decreases-each g l = length l.workers.items
