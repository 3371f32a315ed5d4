-- What an evaluator promised of what a pass held.
use Rattle.std.proofs.Common.{◌≡◌, ℕ, Result, sym, ap, subst, ◌∙◌}
use Rattle.std.specs.Prelude.{sum_by}
use Rattle.inode_tree.specs.declared.draft.Draft.{Draft}
use Rattle.inode_tree.specs.declared.draft.EvalStop.{EvalStop}
use Rattle.inode_tree.specs.declared.fresh.Fresh.{Fresh}
use Rattle.inode_tree.specs.Promises.{IsEvaluated}
use Rattle.inode_tree.specs.Views.{Held}
use Rattle.namespace_model.specs.declared.request.Request.{Request}
use Rattle.striped_store.specs.Views.{number_of_pass, made_by}
use Rattle.parted_namespace.specs.Journals.{uses}
use Rattle.service_workers.specs.Drafts.{fresh_of}
use Rattle.service_workers.specs.Looks.{NamespacePass, shown_by}

-- the ids that a pass has still to give are the same, where it has made no entry
fresh_same : {K : Type 0} (old new : NamespacePass K) (pass used : ℕ) → number_of_pass new ≡ number_of_pass old → made_by new ≡ made_by old → pass ≡ number_of_pass old → used ≡ sum_by uses (made_by old)
    → record { pass = pass; used = used } ≡ fresh_of new
fresh_same old new pass used number made pass_is used_is =
    ap (λ (n : ℕ). record { pass = n; used = used }) (pass_is ∙ sym number) ∙ ap (λ (m : ℕ). record { pass = number_of_pass new; used = m }) (used_is ∙ ap (sum_by uses) (sym made))

-- so is what was promised with them
pub evaluated_same : {K : Type 0} (held : Held) (old new : NamespacePass K) (request : Request) (moment pass used : ℕ) (result : Result Draft EvalStop)
    → number_of_pass new ≡ number_of_pass old → made_by new ≡ made_by old → pass ≡ number_of_pass old → used ≡ sum_by uses (made_by old)
    → IsEvaluated held (shown_by new) request moment (record { pass = pass; used = used }) result → IsEvaluated held (shown_by new) request moment (fresh_of new) result
evaluated_same held old new request moment pass used result number made pass_is used_is is =
    subst (λ (f : Fresh). IsEvaluated held (shown_by new) request moment f result) (fresh_same old new pass used number made pass_is used_is) is
