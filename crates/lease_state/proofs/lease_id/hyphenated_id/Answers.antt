use Rattle.std.proofs.Common.{sym, ◌∙◌}
use Rattle.std.proofs.lemmas.Bool.{false≢true}
use Rattle.lease_state.proofs.IdLemmas.{parsed-hyphenated, nothing_of_nothing}
use Rattle.lease_state.proofs.lease_id.hyphenated_id.Goals as goal

pub returns-in-Err : goal.returns-in-Err
returns-in-Err c =
    let short = parsed-hyphenated c.args.text.now c.if-text-ne36.false in
    sym (nothing_of_nothing _ _ (λ w. false≢true (c.in-Err.ensures.ok.1 (w.0, short ∙ w.1))))
