use Rattle.std.proofs.Common.{◌++◌, ap, sym, subst, ◌∙◌}
use Rattle.path_order.specs.Subtrees.{NeedsSubtree}
use Rattle.path_order.proofs.PathNames.{not_empty}
use Rattle.op_delete.proofs.clear.ask_seen.Goals as goal

pub ask_node-requires-clause-below : goal.ask_node-requires-clause-below
ask_node-requires-clause-below g c = λ e. not_empty c.args.path.now _ c.requires.below (sym c.in_ok-at.ensures ∙ e)

pub returns-clause-need : goal.returns-clause-need
returns-clause-need g c = λ n e.
    subst (λ q. NeedsSubtree (g.V.View.held c.ask_node.new.view) (g.V.View.shown c.ask_node.new.view) q n)
    (c.in_ok-at.ensures ∙ ap (λ l. c.args.path.now ++ l) (c.as_slice.ensures.value ∙ c.in_ok-names.ensures)) (c.ask_node.ensures.need n e)
