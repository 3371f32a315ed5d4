use Rattle.std.proofs.Common.{Err, ◌++◌, refl, ap, subst, ◌∙◌}
use Rattle.namespace_model.specs.declared.code.Code.TheVariants.{RenameDestinationParentPathNotFound}
use Rattle.path_walk.proofs.CallAnswers.{stopped_by}
use Rattle.path_walk.proofs.CallLemmas.{on_both}
use Rattle.dir_rename.specs.Ends.{IsLooked}
use Rattle.dir_rename.specs.Stages.{moving_of, overs}
use Rattle.dir_rename.proofs.RenameLemmas.{some_path, source_later, path_answer, path_needs, ends_found}
use Rattle.dir_rename.proofs.eval.rename_to.Goals as goal

pub look_at-requires : goal.look_at-requires
look_at-requires g c = record { below = some_path c.args.call.now c.requires.call c.args.asked.now c.requires.operation }

pub rename_ends-requires-clause-ends : goal.rename_ends-requires-clause-ends
rename_ends-requires-clause-ends g c =
    ends_found c.args.call.now c.requires.call c.args.asked.now c.requires.operation (g.V.View.held c.look_at.new.view) (g.V.View.shown c.look_at.new.view) c.args.source
    (source_later c.look_at.ensures.on c.args.call.now c.args.asked.now c.args.source (overs (moving_of c.args.call.now c.args.asked.now) c.args.source) c.requires.source)
    c.in-Ok-At.spot
    (subst (λ e. IsLooked (g.V.View.held c.look_at.new.view) (g.V.View.shown c.look_at.new.view) c.args.call.now.caller.now RenameDestinationParentPathNotFound c.args.call.now.path.now e) c.in-Ok-At.field-0-is c.in-Ok-At.ensures.looked)
    _ (c.in_ok-extend_from_slice-in-Ok-At.ensures.items ∙ ap (λ l. c.args.source.reads.items ++ l) c.as_slice.ensures.value) refl refl refl refl refl refl

pub returns-in_ok-extend_from_slice-in-Ok-At-clause-on : goal.returns-in_ok-extend_from_slice-in-Ok-At-clause-on
returns-in_ok-extend_from_slice-in-Ok-At-clause-on g c = on_both c.look_at.ensures.on c.rename_ends.ensures.on

pub returns-in_ok-answered-in-Ok-Ended-clause-evaluated : goal.returns-in_ok-answered-in-Ok-Ended-clause-evaluated
returns-in_ok-answered-in-Ok-Ended-clause-evaluated g c =
    path_answer c.args.call.now c.requires.call c.args.asked.now c.requires.operation (g.V.View.held c.look_at.new.view) (g.V.View.shown c.look_at.new.view) c.args.source
    (source_later c.look_at.ensures.on c.args.call.now c.args.asked.now c.args.source (overs (moving_of c.args.call.now c.args.asked.now) c.args.source) c.requires.source)
    c.in-Ok-Ended.ids.items _ c.in-Ok-Ended.reply _
    (subst (λ e. IsLooked (g.V.View.held c.look_at.new.view) (g.V.View.shown c.look_at.new.view) c.args.call.now.caller.now RenameDestinationParentPathNotFound c.args.call.now.path.now e) c.in-Ok-Ended.field-0-is c.in-Ok-Ended.ensures.looked)
    (c.in_ok-extend_from_slice-in-Ok-Ended.ensures.items ∙ ap (λ l. c.args.source.reads.items ++ l) c.as_slice-in-Ok-Ended.ensures.value)
    c.in_ok-answered-in-Ok-Ended.ensures

pub returns-in-Err-clause-evaluated : goal.returns-in-Err-clause-evaluated
returns-in-Err-clause-evaluated g c =
    stopped_by (g.V.View.held c.look_at.new.view) (g.V.View.shown c.look_at.new.view) c.args.call.now c.in-Err.stop (λ n e.
    path_needs c.args.call.now c.requires.call c.args.asked.now c.requires.operation (g.V.View.held c.look_at.new.view) (g.V.View.shown c.look_at.new.view) c.args.source
    (source_later c.look_at.ensures.on c.args.call.now c.args.asked.now c.args.source (overs (moving_of c.args.call.now c.args.asked.now) c.args.source) c.requires.source)
    n (c.in-Err.ensures.need n (ap Err e)))
