use Rattle.std.proofs.Common.{◌≡◌}
use Rattle.conn_workers.specs.Workers.{IsReady, HasWorked}
use Rattle.conn_workers.proofs.workers.serve_rest.Given as goal

-- the worker is ready, and served connections since the call; as many are to be taken as before
abbrev pub invariant-loop : goal.invariant-loop
invariant-loop g l =
    IsReady l.service l.worker.pass.pass × HasWorked l.service.limits l.fn.worker.pass.pass l.worker.pass.pass × (l.state.most ≡ l.fn.state.most)
