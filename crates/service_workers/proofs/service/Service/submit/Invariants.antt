use Rattle.std.proofs.Common.{◌≡◌}
use Rattle.conn_io.specs.Moments.{HasTicked}
use Rattle.service_workers.specs.Rounds.{IsRound}
use Rattle.service_workers.proofs.service.Service.submit.Given as goal

abbrev pub invariant-loop-done : goal.invariant-loop-done
invariant-loop-done g l = record {
  round : IsRound l.self l.fn.pass l.pass l.holding.held l.holding.plan l.done;
  asks : l.asked ≡ l.fn.asked;
  ticked : HasTicked (g.C.Clock.ahead l.fn.clock) (g.C.Clock.ahead l.clock) l.done;
}
