use Rattle.std.proofs.Common.{◌∙◌}
use Rattle.conn_workers.proofs.WorkLemmas.{worked_once, worked_twice}
use Rattle.conn_workers.proofs.workers.serve_rest.Goals as goal

pub loop-preserved : goal.loop-preserved
loop-preserved g c = (
  c.serve_connection.ensures.ready,
  worked_twice c.args.service.now.limits c.args.worker.now.pass.pass c.loop.worker.pass.pass c.serve_connection.new.worker.pass.pass c.loop.invariant.1
      (worked_once c.args.service.now.limits c.loop.worker.pass.pass c.serve_connection.new.worker.pass.pass _ _ _ _ _ _ _ _ c.serve_connection.ensures.again c.serve_connection.ensures.served),
  c.next-in-loop.ensures.most ∙ c.loop.invariant.2,
)
