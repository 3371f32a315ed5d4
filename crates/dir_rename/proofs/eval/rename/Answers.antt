use Rattle.std.proofs.Common.{Err, ap, subst}
use Rattle.namespace_model.specs.declared.code.Code.TheVariants.{SourcePathNotFound}
use Rattle.path_walk.proofs.CallAnswers.{stopped_by}
use Rattle.path_walk.proofs.CallLemmas.{on_both}
use Rattle.dir_rename.specs.Ends.{IsLooked}
use Rattle.dir_rename.proofs.RenameLemmas.{some_source, source_answer, source_needs}
use Rattle.dir_rename.proofs.eval.rename.Goals as goal

pub look_at-requires : goal.look_at-requires
look_at-requires g c = record { below = some_source c.args.call.now c.requires.call c.args.asked.now c.requires.operation }

pub rename_out-requires-clause-spot : goal.rename_out-requires-clause-spot
rename_out-requires-clause-spot g c =
    subst (λ e. IsLooked (g.V.View.held c.look_at.new.view) (g.V.View.shown c.look_at.new.view) c.args.call.now.caller.now SourcePathNotFound c.args.asked.now.source.now e) c.in-Ok-At.field-0-is c.in-Ok-At.ensures.looked

pub returns-in-Ok-At-clause-on : goal.returns-in-Ok-At-clause-on
returns-in-Ok-At-clause-on g c = on_both c.look_at.ensures.on c.rename_out.ensures.on

pub returns-in_ok-answered-in-Ok-Ended-clause-evaluated : goal.returns-in_ok-answered-in-Ok-Ended-clause-evaluated
returns-in_ok-answered-in-Ok-Ended-clause-evaluated g c =
    source_answer c.args.call.now c.requires.call c.args.asked.now c.requires.operation (g.V.View.held c.look_at.new.view) (g.V.View.shown c.look_at.new.view) c.in-Ok-Ended.ids.items c.in-Ok-Ended.reply _
    (subst (λ e. IsLooked (g.V.View.held c.look_at.new.view) (g.V.View.shown c.look_at.new.view) c.args.call.now.caller.now SourcePathNotFound c.args.asked.now.source.now e) c.in-Ok-Ended.field-0-is c.in-Ok-Ended.ensures.looked)
    c.in_ok-answered-in-Ok-Ended.ensures

pub returns-in-Err-clause-evaluated : goal.returns-in-Err-clause-evaluated
returns-in-Err-clause-evaluated g c =
    stopped_by (g.V.View.held c.look_at.new.view) (g.V.View.shown c.look_at.new.view) c.args.call.now c.in-Err.stop (λ n e.
    source_needs c.args.call.now c.requires.call c.args.asked.now c.requires.operation (g.V.View.held c.look_at.new.view) (g.V.View.shown c.look_at.new.view) n (c.in-Err.ensures.need n (ap Err e)))
