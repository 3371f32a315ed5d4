use Rattle.std.proofs.Common.{ℕ, List, ◌++◌, sym, ◌∙◌, subst}
use Rattle.http_front.specs.Requests.{Begins}
use Rattle.http_front.specs.Reads.{Answers}
use Rattle.http_front.proofs.CauseLemmas.{Begins-head}
use Rattle.http_front.proofs.ReadLemmas.{Reads-finish, kept_end, kept_fault}
use Rattle.http_front.proofs.reader.answer.Goals as goal

pub returns-in-Ok-Some-clause-reads : goal.returns-in-Ok-Some-clause-reads
returns-in-Ok-Some-clause-reads g c =
    Reads-finish _ _ _ c.args.window.now c.meet_head.new.window c.finish.new.window c.in-Ok-Some.head c.finish.result
    (rw c.in-Ok-Some.field-0-is at c.in-Ok-Some.ensures.awaits) c.in-Ok-Some.ensures.few c.finish.ensures.finishes

pub returns-in-Ok-Some-clause-kept_first : goal.returns-in-Ok-Some-clause-kept_first
returns-in-Ok-Some-clause-kept_first g c t rest begins =
    let same = c.in-Ok-Some.ensures.kept_first t.head (t.body ++ rest) (Begins-head c.args.window.now t rest begins) in
    let done = c.finish.ensures.kept_first t rest (subst (λ (b : List ℕ). Begins b t rest) (sym same.1) begins) in
    (done.0 ∙ same.0, subst (λ (b : List ℕ). Answers b (g.S.Source.left c.finish.new.source) c.finish.new.window c.finish.result) same.1 done.1)

pub returns-in-Ok-None-clause-kept_first : goal.returns-in-Ok-None-clause-kept_first
returns-in-Ok-None-clause-kept_first g c t rest begins =
    let same = c.in-Ok-None.ensures.kept_first t.head (t.body ++ rest) (Begins-head c.args.window.now t rest begins) in
    (same.0, kept_end _ _ c.args.window.now c.meet_head.new.window (rw c.in-Ok-None.field-0-is at c.in-Ok-None.ensures.awaits) same.1)

pub returns-in-Err-clause-kept_first : goal.returns-in-Err-clause-kept_first
returns-in-Err-clause-kept_first g c t rest begins =
    let same = c.in-Err.ensures.kept_first t.head (t.body ++ rest) (Begins-head c.args.window.now t rest begins) in
    (same.0, kept_fault _ _ c.args.window.now c.meet_head.new.window c.meet_head.new.window c.in-Err.fault c.in-Err.ensures.awaits same.1)
