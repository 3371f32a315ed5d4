use Rattle.std.proofs.Common.{inr, refl, length, map, sym, ap, subst, ◌∙◌}
use Rattle.std.proofs.lemmas.List.{with_items_is}
use Rattle.std.specs.Prelude.{All}
use Rattle.striped_store.specs.Closed.{AreEveryPass}
use Rattle.conn_workers.specs.Workers.{EachPair, IsReady, HasWorked}
use Rattle.hns_commands.specs.Serves.{AreInOrder}
use Rattle.hns_commands.proofs.ServeLemmas.{ready_new, every, in_order, nothing_out}
use Rattle.hns_commands.proofs.serve.serve_by.Goals as goal

pub serve_all-listener-requires-clause-ready : goal.serve_all-listener-requires-clause-ready
serve_all-listener-requires-clause-ready g c κs within =
    subst (λ ws. All (λ w. IsReady c.args.service w.pass.pass) ws) (sym c.as_mut_slice.ensures.value) (ready_new c.args.service (λ w. w.pass.pass) c.args.workers.items c.requires.new)

pub close-requires-clause-every : goal.close-requires-clause-every
close-requires-clause-every g c =
    let served = c.serve_all-listener.ensures in
    let long = served.many ∙ c.as_mut_slice.ensures.len in
    subst (λ ws. AreEveryPass c.args.service (map (λ w. w.pass.pass) ws)) (sym (with_items_is c.args.workers c.serve_all-listener.new.workers long))
    (every c.args.service c.args.service.limits (λ w. w.pass.pass) c.args.workers.items c.serve_all-listener.new.workers c.requires.new (served.many ∙ ap length c.as_mut_slice.ensures.value) (sym c.requires.many)
    (subst (λ ws. EachPair (λ old new. HasWorked c.args.service.limits old.pass.pass new.pass.pass) ws c.serve_all-listener.new.workers) c.as_mut_slice.ensures.value served.worked) served.ready)

pub close-requires-clause-order : goal.close-requires-clause-order
close-requires-clause-order g c =
    let served = c.serve_all-listener.ensures in
    let long = served.many ∙ c.as_mut_slice.ensures.len in
    subst (λ ws. AreInOrder (map (λ w. w.pass.pass) ws)) (sym (with_items_is c.args.workers c.serve_all-listener.new.workers long))
    (in_order c.args.service c.args.service.limits (λ w. w.pass.pass) c.args.workers.items c.serve_all-listener.new.workers c.requires.new (served.many ∙ ap length c.as_mut_slice.ensures.value) (sym c.requires.many)
    (subst (λ ws. EachPair (λ old new. HasWorked c.args.service.limits old.pass.pass new.pass.pass) ws c.serve_all-listener.new.workers) c.as_mut_slice.ensures.value served.worked) served.ready)

pub returns-in-Err-clause-leaves : goal.returns-in-Err-clause-leaves
returns-in-Err-clause-leaves g c = (inr refl, nothing_out _)
