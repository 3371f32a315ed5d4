use Rattle.std.proofs.Common.{sym, subst}
use Rattle.path_listing.specs.Listed.{NeedsPage}
use Rattle.path_listing.proofs.eval.read_page.Goals as goal

pub returns-then-wanted-clause-need : goal.returns-then-wanted-clause-need
returns-then-wanted-clause-need g c = λ n e.
    subst (λ r. NeedsPage (g.V.View.held c.read_below.new.view) (g.V.View.shown c.read_below.new.view) c.args.call.now.path.now r c.args.wanted.now.token.now c.args.wanted.now.max n)
    (sym c.if-wanted.true) (c.read_below.ensures.need n e)

pub returns-clause-need : goal.returns-clause-need
returns-clause-need g c = λ n e.
    subst (λ r. NeedsPage (g.V.View.held c.read_children.new.view) (g.V.View.shown c.read_children.new.view) c.args.call.now.path.now r c.args.wanted.now.token.now c.args.wanted.now.max n)
    (sym c.if-wanted.false) (c.read_children.ensures.need n e)
