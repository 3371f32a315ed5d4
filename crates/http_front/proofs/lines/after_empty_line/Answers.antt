use Rattle.std.proofs.Common.{[], ◌∷◌, inl, inr, refl}
use Rattle.http_front.proofs.LineLemmas.{TakesEmptyLine-taken}
use Rattle.http_front.proofs.lines.after_empty_line.Goals as goal

pub returns-in-Some-clause-taken : goal.returns-in-Some-clause-taken
returns-in-Some-clause-taken c =
    let taken = c.in-Some.ensures.cases in
    TakesEmptyLine-taken (10 ∷ []) c.args.bytes.now _ (inl refl) taken.0 taken.1

pub returns-in-Some-strip_prefix-clause-taken : goal.returns-in-Some-strip_prefix-clause-taken
returns-in-Some-strip_prefix-clause-taken c =
    let taken = c.in-Some-strip_prefix.ensures.cases in
    TakesEmptyLine-taken (13 ∷ 10 ∷ []) c.args.bytes.now _ (inr refl) taken.0 taken.1
