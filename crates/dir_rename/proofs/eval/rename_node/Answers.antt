use Rattle.std.proofs.Common.{sym, ◌∙◌}
use Rattle.path_walk.proofs.Truths.{is_none}
use Rattle.dir_rename.proofs.RenameLemmas.{guarded_answer, let_go}
use Rattle.dir_rename.proofs.eval.rename_node.Goals as goal

pub returns-in-Some-clause-evaluated : goal.returns-in-Some-clause-evaluated
returns-in-Some-clause-evaluated g c =
    guarded_answer c.args.call.now c.requires.call c.args.asked.now c.requires.operation (g.V.View.held c.args.view.now) (g.V.View.shown c.args.view.now) c.args.source c.requires.source c.in-Some.reply _
    (sym c.in_ok-reply.ensures ∙ c.in-Some.is) c.in_ok-answered.ensures

pub rename_to-requires-clause-source : goal.rename_to-requires-clause-source
rename_to-requires-clause-source g c =
    let_go c.args.call.now c.requires.call c.args.asked.now c.requires.operation (g.V.View.held c.args.view.now) (g.V.View.shown c.args.view.now) c.args.source c.requires.source
    (sym c.in_ok-reply.ensures ∙ is_none _ c.in_default.not-Some)
