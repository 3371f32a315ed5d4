use Rattle.std.proofs.Common.{sym, ◌∙◌}
use Rattle.path_walk.proofs.HoldLemmas.{lacks_stripe}
use Rattle.path_walk.proofs.hold.unheld.Goals as goal

pub returns-then-not-is_exclusive : goal.returns-then-not-is_exclusive
returns-then-not-is_exclusive g c =
    lacks_stripe (g.V.View.held c.args.view.now) c.args.ids.now c.loop-id.id-index (record { 0 = 0 }) c.loop-id-test.true (sym c.is_exclusive.ensures ∙ c.if-not-is_exclusive.true)
