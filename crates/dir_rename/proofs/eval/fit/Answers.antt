use Rattle.std.proofs.Common.{sym, ◌∙◌}
use Rattle.dir_rename.proofs.RenameLemmas.{may_exceed, may_not}
use Rattle.dir_rename.proofs.eval.fit.Goals as goal

pub fit_through-requires-clause-ends : goal.fit_through-requires-clause-ends
fit_through-requires-clause-ends g c =
    may_exceed c.args.call.now c.requires.call c.args.asked.now c.requires.operation (g.V.View.held c.args.view.now) (g.V.View.shown c.args.view.now) c.args.ends c.requires.ends
    (sym c.may_exceed.ensures ∙ c.if-may_exceed.true)

pub move_node-requires-clause-ends : goal.move_node-requires-clause-ends
move_node-requires-clause-ends g c =
    may_not c.args.call.now c.requires.call c.args.asked.now c.requires.operation (g.V.View.held c.args.view.now) (g.V.View.shown c.args.view.now) c.args.ends c.requires.ends
    (sym c.may_exceed.ensures ∙ c.if-may_exceed.false)
