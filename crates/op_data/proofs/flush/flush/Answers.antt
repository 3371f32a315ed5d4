use Rattle.std.proofs.Common.{sym, subst, ◌∙◌}
use Rattle.std.specs.Prelude.{IfOk}
use Rattle.path_walk.specs.Edits.{IsVerdict}
use Rattle.path_walk.proofs.QuestionLemmas.{unless_refused, unless_passed}
use Rattle.path_walk.proofs.Truths.{is_none}
use Rattle.path_walk.specs.Calls.{entry_of}
use Rattle.op_data.proofs.FlushLemmas.{flush_asks, flush_allowed}
use Rattle.op_data.proofs.flush.flush.Goals as goal

pub returns-in-Some : goal.returns-in-Some
returns-in-Some c =
    flush_asks (entry_of c.args.call.now) c.args.call.now.path.now c.args.position c.args.node.now c.args.file.now c.requires.file c.args.retain
    ∙ unless_refused _ _ _ (sym c.refused.ensures ∙ c.in-Some.is)

pub flushed-requires-clause-allowed : goal.flushed-requires-clause-allowed
flushed-requires-clause-allowed c =
    flush_allowed (entry_of c.args.call.now) c.args.call.now.path.now c.args.position c.args.node.now c.args.file.now c.requires.file (sym c.refused.ensures ∙ is_none _ c.in_default.not-Some)

pub returns : goal.returns
returns c =
    subst (λ o. IfOk c.flushed.result (λ v. IsVerdict o c.args.call.now.path.now c.args.node.now v))
    (sym (flush_asks (entry_of c.args.call.now) c.args.call.now.path.now c.args.position c.args.node.now c.args.file.now c.requires.file c.args.retain
    ∙ unless_passed _ _ (sym c.refused.ensures ∙ is_none _ c.in_default.not-Some))) c.flushed.ensures
