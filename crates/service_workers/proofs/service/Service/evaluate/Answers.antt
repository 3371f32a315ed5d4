use Rattle.std.proofs.Common.{rules, ◌≡◌, sym, subst}
use Rattle.inode_tree.specs.Promises.{IsEvaluated}
use Rattle.striped_store.specs.Views.{number_of_pass, made_by}
use Rattle.service_workers.specs.Drafts.{fresh_of}
use Rattle.service_workers.specs.Looks.{Looker, mode_in, shown_by}
use Rattle.service_workers.proofs.EvaluateLemmas.{evaluated_same}
use Rattle.service_workers.proofs.service.Service.evaluate.Goals as goal

pub returns-clause-evaluated : goal.returns-clause-evaluated
returns-clause-evaluated g c =
    let number : number_of_pass c.view.inside.pass.now ≡ number_of_pass c.args.pass.now = search rules in
    let made : made_by c.view.inside.pass.now ≡ made_by c.args.pass.now = search rules in
    let e = subst (λ (v : Looker _). IsEvaluated (mode_in c.args.holding.now.held) (shown_by v.pass) c.args.request.now c.args.moment (record { pass = c.number.result; used = c.used.result }) c.eval-result.result) (sym c.view.view_is) c.eval-result.ensures.evaluated in
    let f : IsEvaluated (mode_in c.args.holding.now.held) (shown_by c.view.inside.pass.now) c.args.request.now c.args.moment (fresh_of c.view.inside.pass.now) c.eval-result.result =
    evaluated_same (mode_in c.args.holding.now.held) c.args.pass.now c.view.inside.pass.now c.args.request.now c.args.moment _ _ c.eval-result.result number made c.number.ensures.value c.used.ensures.value e in
    search rules
