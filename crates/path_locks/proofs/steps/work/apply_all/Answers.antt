use Rattle.std.proofs.Common.{arith}
use Rattle.path_locks.specs.Working.{worked}
use Rattle.path_locks.proofs.Works.{changed_next, changed_all}
use Rattle.path_locks.proofs.Rounds.{get_some}
use Rattle.path_locks.proofs.steps.work.apply_all.Goals as goal

pub apply_at-requires-clause-ready : goal.apply_at-requires-clause-ready
apply_at-requires-clause-ready g c =
    let i = c.loop-at.invariant in
    let t = get_some c.args.parts.now.items c.loop-at.at (omega (arith, c.loop-at-test.true, c.len-count.ensures, c.args.parts.now.ok.0)) in
    (t.0, i.left c.loop-at.at t.0 (omega arith) t.1, c.requires.ready c.loop-at.at t.0 t.1)

pub loop-at-preserved : goal.loop-at-preserved
loop-at-preserved g c = changed_next g.P.Parted.bare (worked g.P.Parted.applied c.args.work.now c.args.number) _ _ _ _ c.loop-at.invariant c.apply_at.ensures

pub returns : goal.returns
returns g c =
    changed_all g.P.Parted.bare (worked g.P.Parted.applied c.args.work.now c.args.number) _ _ c.loop-at.at
    (omega (arith, c.loop-at-test.false, c.len-count.ensures, c.args.parts.now.ok.0)) c.loop-at.invariant
