use Rattle.std.proofs.Common.{Some, ap, ◌∙◌}
use Rattle.std.proofs.lemmas.Result.{IfOk-weaker}
use Rattle.serde_json.specs.Written.{compact_text}
use Rattle.body_text.proofs.BodyLemmas.{batch_float, batch_shallow, counted}
use Rattle.body_text.proofs.batches.batch_body.Goals as goal

pub returns-clause-text : goal.returns-clause-text
returns-clause-text c =
    let is = c.in_ok-batch_value.ensures in
    IfOk-weaker c.to_vec.result _ _
    (λ body text b h. text (batch_float _ c.args.changed c.args.failed.items b is h) ∙ ap compact_text (is ∙ counted c.args.changed c.args.failed.items b h))
    c.to_vec.ensures.text

pub returns-clause-reads_back : goal.returns-clause-reads_back
returns-clause-reads_back c =
    let is = c.in_ok-batch_value.ensures in
    IfOk-weaker c.to_vec.result _ _
    (λ body reads b h. reads (batch_shallow _ c.args.changed c.args.failed.items b is h) ∙ ap Some (is ∙ counted c.args.changed c.args.failed.items b h))
    c.to_vec.ensures.reads_back
