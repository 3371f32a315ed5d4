use Rattle.std.proofs.Common.{◌≡◌, ◌-◌, IfOk, take, ap, subst, ◌∙◌}
use Rattle.path_text.proofs.PathLemmas.{taken_is_parent}
use Rattle.path_text.proofs.path.Path.parent.Goals as goal

pub returns : goal.returns
returns c =
    subst (λ t. IfOk c.front.result (λ path. path ≡ t)) (ap (λ n. take (n - 1) c.args.self.now) c.depth.ensures ∙ taken_is_parent c.args.self.now) c.front.ensures
