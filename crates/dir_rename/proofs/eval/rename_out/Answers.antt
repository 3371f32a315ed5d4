use Rattle.std.proofs.Common.{refl, subst}
use Rattle.path_walk.specs.Answers.{IsAnswered}
use Rattle.dir_rename.proofs.RenameLemmas.{source_missing, source_found}
use Rattle.dir_rename.proofs.eval.rename_out.Goals as goal

pub rename_node-requires-clause-source : goal.rename_node-requires-clause-source
rename_node-requires-clause-source g c =
    source_found c.args.call.now c.requires.call c.args.asked.now c.requires.operation (g.V.View.held c.args.view.now) (g.V.View.shown c.args.view.now) c.args.spot c.requires.spot c.in-Some.top c.in-Some.is _ refl refl refl refl

pub returns-in_ok-answered-in-None-clause-evaluated : goal.returns-in_ok-answered-in-None-clause-evaluated
returns-in_ok-answered-in-None-clause-evaluated g c =
    source_missing c.args.call.now c.requires.call c.args.asked.now c.requires.operation (g.V.View.held c.args.view.now) (g.V.View.shown c.args.view.now) c.args.spot c.requires.spot c.in-None.is _
    (subst (λ r. IsAnswered c.args.call.now.request.now.close r c.args.spot.reads.items c.in_ok-answered-in-None.field-0) c.refusal.ensures c.in_ok-answered-in-None.ensures)
