use Rattle.std.proofs.Common.{sym, ◌∙◌}
use Rattle.path_walk.proofs.Truths.{is_none}
use Rattle.dir_rename.proofs.RenameLemmas.{refused_answer, not_refused}
use Rattle.dir_rename.proofs.eval.rename_ends.Goals as goal

pub returns-in-Some-clause-evaluated : goal.returns-in-Some-clause-evaluated
returns-in-Some-clause-evaluated g c =
    refused_answer c.args.call.now c.requires.call c.args.asked.now c.requires.operation (g.V.View.held c.args.view.now) (g.V.View.shown c.args.view.now) c.args.ends c.requires.ends c.in-Some.reply _
    (sym c.in_ok-reply.ensures ∙ c.in-Some.is) c.in_ok-answered.ensures

pub fit-requires-clause-ends : goal.fit-requires-clause-ends
fit-requires-clause-ends g c =
    not_refused c.args.call.now c.requires.call c.args.asked.now c.requires.operation (g.V.View.held c.args.view.now) (g.V.View.shown c.args.view.now) c.args.ends c.requires.ends
    (sym c.in_ok-reply.ensures ∙ is_none _ c.in_default.not-Some)
