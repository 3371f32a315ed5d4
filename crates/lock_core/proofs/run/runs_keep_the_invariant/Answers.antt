use Rattle.lock_core.proofs.Running.{run_from_start}
use Rattle.lock_core.proofs.run.runs_keep_the_invariant.Goals as goal

pub returns : goal.returns
returns g c start events last fits named r = run_from_start g.P.Parted.object g.met.P.Parted.lawful start last events fits named r
