use Rattle.std.proofs.Common.{arith}
use Rattle.path_locks.proofs.Works.{changed_next, same_stop, ready_next, ready_all}
use Rattle.path_locks.proofs.steps.work.reserve_all.Goals as goal

pub returns-in_err-reserve_at-clause-same : goal.returns-in_err-reserve_at-clause-same
returns-in_err-reserve_at-clause-same g c =
    same_stop g.P.Parted.bare _ _ _ (changed_next g.P.Parted.bare (λ q. q) _ _ _ _ c.loop-at.invariant.same c.reserve_at.ensures.changed)

pub loop-at-preserved : goal.loop-at-preserved
loop-at-preserved g c =
    let i = c.loop-at.invariant in
    let t = c.in_ok-reserve_at.ensures.ready in
    record {
      same = changed_next g.P.Parted.bare (λ q. q) _ _ _ _ i.same c.reserve_at.ensures.changed;
      ready = ready_next g.P.Parted.ready c.args.work.now _ _ _ g.P.Parted.bare (λ q. q) i.ready c.reserve_at.ensures.changed t.0 t.1 t.2;
    }

pub returns-clause-ready : goal.returns-clause-ready
returns-clause-ready g c =
    let i = c.loop-at.invariant in
    ready_all g.P.Parted.ready c.args.work.now _ c.loop-at.at (omega (arith, c.loop-at-test.false, c.len-count.ensures, c.args.parts.now.ok.0, i.same.long)) i.ready
