use Rattle.std.proofs.Common.{Some, ap, ◌∙◌}
use Rattle.std.proofs.lemmas.Result.{IfOk-weaker}
use Rattle.serde_json.specs.Written.{compact_text}
use Rattle.body_text.specs.Written.{paths_data}
use Rattle.body_text.proofs.BodyLemmas.{page_float, page_shallow, paths_float, paths_depth}
use Rattle.body_text.proofs.paths.paths_body.Goals as goal

pub returns-clause-text : goal.returns-clause-text
returns-clause-text c =
    let is = c.in_ok-paths_value.ensures in
    IfOk-weaker c.to_vec.result _ _
    (λ body text t ps e. text (page_float _ _ _ _ is e (paths_float t ps)) ∙ ap compact_text (is ∙ ap paths_data e))
    c.to_vec.ensures.text

pub returns-clause-reads_back : goal.returns-clause-reads_back
returns-clause-reads_back c =
    let is = c.in_ok-paths_value.ensures in
    IfOk-weaker c.to_vec.result _ _
    (λ body reads t ps e. reads (page_shallow _ _ _ _ is e (paths_depth t ps)) ∙ ap Some (is ∙ ap paths_data e))
    c.to_vec.ensures.reads_back
