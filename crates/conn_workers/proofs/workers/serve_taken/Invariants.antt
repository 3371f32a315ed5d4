use Rattle.conn_workers.specs.Workers.{IsReady, HasWorked}
use Rattle.conn_workers.proofs.workers.serve_taken.Given as goal

-- the worker is ready, and served connections since the call
abbrev pub invariant-loop : goal.invariant-loop
invariant-loop g l =
    IsReady l.service l.worker.pass.pass × HasWorked l.service.limits l.fn.worker.pass.pass l.worker.pass.pass
