use Rattle.std.proofs.Common.{Err, ap, sym, subst, ◌∙◌}
use Rattle.namespace_model.specs.declared.code.Code.TheVariants.{FilesystemNotFound}
use Rattle.path_walk.specs.Parents.{IsEntered}
use Rattle.path_walk.proofs.CallAnswers.{stopped_by, walk_need}
use Rattle.op_filesystem.proofs.FilesystemLemmas.{asks_first, walks_as, never_ended}
use Rattle.op_filesystem.proofs.SuperuserLemmas.{denied_answer}
use Rattle.op_filesystem.proofs.create.create_filesystem.Goals as goal

pub returns-in-Some-clause-evaluated : goal.returns-in-Some-clause-evaluated
returns-in-Some-clause-evaluated g c =
    denied_answer c.args.call.now c.requires.call _ (asks_first c.args.call.now c.args.props.now c.requires.call c.requires.operation) _ _ c.in-Some.reply _ _ (sym c.in_ok-reply.ensures ∙ c.in-Some.is) c.new.ensures.items
    c.in_ok-answered.ensures

pub returns-in-Err-clause-evaluated : goal.returns-in-Err-clause-evaluated
returns-in-Err-clause-evaluated g c =
    stopped_by _ _ c.args.call.now c.in-Err.stop (λ n e. walk_need _ _ c.args.call.now _ _ FilesystemNotFound n (c.in-Err.ensures.need n (ap Err e))
    (walks_as c.args.call.now c.args.props.now c.requires.call c.requires.operation (sym c.in_ok-reply.ensures ∙ c.in_default.is)))

pub unreachable-requires : goal.unreachable-requires
unreachable-requires g c =
    never_ended c.args.call.now c.args.props.now c.requires.call c.requires.operation _ _ c.stands.ensures _ _
    (subst (λ e. IsEntered (g.V.View.held c.enter.new.view) (g.V.View.shown c.enter.new.view) c.args.call.now.caller.now c.args.call.now.path.now e) c.in-Ok-Ended.field-0-is
    c.in-Ok-Ended.ensures.entered)
