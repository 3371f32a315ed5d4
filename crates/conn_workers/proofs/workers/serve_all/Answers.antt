use Rattle.std.proofs.Common.{rules, ◌≡◌, ◌<◌, length, subst, ◌∙◌, arith}
use Rattle.std.specs.Prelude.{slice_index_or}
use Rattle.conn_workers.specs.Workers.{IsReady, HasWorked}
use Rattle.conn_workers.proofs.WorkLemmas.{worked_twice, all_but_first, each_but_first, first_same}
use Rattle.conn_workers.proofs.workers.serve_all.Goals as goal

pub returns-clause-ready : goal.returns-clause-ready
returns-clause-ready g c =
    let same : length c.for_each_mut.new.s ≡ length c.args.workers.now = search rules in
    all_but_first (λ w. IsReady c.args.service.now w.pass.pass) c.for_each_mut.new.s c.serve_rest.new.worker
    (λ k d low.
    let within : k < length c.args.workers.now = omega (arith, low, same) in
    let at = c.for_each_mut.ensures k d within in
    subst (λ w. IsReady c.args.service.now w.pass.pass) at.1.left at.1.call.0)
    c.serve_rest.ensures.ready

pub returns-clause-worked : goal.returns-clause-worked
returns-clause-worked g c =
    let same : length c.for_each_mut.new.s ≡ length c.args.workers.now = search rules in
    each_but_first (λ old new. HasWorked c.args.service.now.limits old.pass.pass new.pass.pass) c.args.workers.now c.for_each_mut.new.s c.serve_rest.new.worker same
    (λ k d low.
    let at = c.for_each_mut.ensures k d low in
    subst (λ w. HasWorked c.args.service.now.limits (slice_index_or c.args.workers.now k d).pass.pass w.pass.pass) at.1.left
    (subst (λ w. HasWorked c.args.service.now.limits w.pass.pass at.1.after_call.now.pass.pass) at.1.argument_is at.1.call.1))
    (λ d low.
    let at = c.for_each_mut.ensures 0 d low in
    let some : 0 < length c.for_each_mut.new.s = omega (arith, low, same) in
    worked_twice c.args.service.now.limits (slice_index_or c.args.workers.now 0 d).pass.pass (slice_index_or c.for_each_mut.new.s 0 c.index-workers-0.result).pass.pass c.serve_rest.new.worker.pass.pass
    (subst (λ w. HasWorked c.args.service.now.limits (slice_index_or c.args.workers.now 0 d).pass.pass w.pass.pass)
    (at.1.left ∙ first_same c.for_each_mut.new.s d c.index-workers-0.result some)
    (subst (λ w. HasWorked c.args.service.now.limits w.pass.pass at.1.after_call.now.pass.pass) at.1.argument_is at.1.call.1))
    c.serve_rest.ensures.worked)
