use Rattle.std.proofs.Common.{sym, ◌∙◌}
use Rattle.namespace_model.specs.SetAccessRecursive.{turn_of}
use Rattle.acl_recursive.proofs.TallyLemmas.{edit_more, failure_more}
use Rattle.acl_recursive.proofs.tally.take_turn.Goals as goal

pub returns-in_ok-put_edit-in-Ok-clause-tally : goal.returns-in_ok-put_edit-in-Ok-clause-tally
returns-in_ok-put_edit-in-Ok-clause-tally c = λ rows is.
    edit_more (turn_of c.args.call.now.caller.now c.args.asked.now.change.now) c.args.call.now.moment c.args.call.now.path.now rows c.args.tally.now _ c.args.step.now is c.in-Ok.pair
    (sym c.in_ok-pair.ensures ∙ c.in-Ok.is) c.in_ok-put_edit-in-Ok.ensures

pub returns-in_ok-put_failure-in-Err-clause-tally : goal.returns-in_ok-put_failure-in-Err-clause-tally
returns-in_ok-put_failure-in-Err-clause-tally c = λ rows is.
    failure_more (turn_of c.args.call.now.caller.now c.args.asked.now.change.now) c.args.call.now.moment c.args.call.now.path.now rows c.args.tally.now _ c.args.step.now is c.in-Err.code
    (sym c.in_ok-pair.ensures ∙ c.in-Err.is) c.in_ok-put_failure-in-Err.ensures
