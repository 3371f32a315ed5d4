use Rattle.std.proofs.Common.{sym, ◌∙◌}
use Rattle.op_filesystem.proofs.FilesystemLemmas.{there_answer, made_answer, lacking_answer}
use Rattle.op_filesystem.proofs.create.create_in.Goals as goal

pub returns-then-is_some : goal.returns-then-is_some
returns-then-is_some g c =
    there_answer c.args.call.now c.args.props.now c.requires.call c.requires.operation _ _ c.requires.allowed _ c.requires.parent c.child_of.result _ c.child_of.ensures (sym c.is_some.ensures ∙ c.if-is_some.true) c.in_ok-already_there.ensures

pub returns-in-Some : goal.returns-in-Some
returns-in-Some g c =
    lacking_answer c.args.call.now c.args.props.now c.requires.call c.requires.operation _ _ c.requires.allowed _ c.requires.parent c.id-id.result c.id-id.ensures c.child_of.result c.child_of.ensures
    (sym c.is_some.ensures ∙ c.if-is_some.false) c.in-Some.need c.in-Some.ensures

pub returns-in_ok-made-in-None : goal.returns-in_ok-made-in-None
returns-in_ok-made-in-None g c =
    made_answer c.args.call.now c.args.props.now c.requires.call c.requires.operation _ _ c.requires.allowed _ c.requires.parent c.id-id.result c.id-id.ensures c.child_of.result c.child_of.ensures
    (sym c.is_some.ensures ∙ c.if-is_some.false) _ c.in-None.ensures c.in_ok-made-in-None.ensures
