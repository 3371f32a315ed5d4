use Rattle.std.proofs.Common.{refl, ap, sym, ◌∙◌}
use Rattle.namespace_model.specs.Refusals.{lacks}
use Rattle.inode_tree.specs.Inodes.{node_of}
use Rattle.inode_tree.specs.declared.draft.EvalStop.TheVariants as stop
use Rattle.path_walk.proofs.StepLemmas.{same_error}
use Rattle.path_walk.proofs.FindLemmas.{child_known, child_needs, parent_later}
use Rattle.path_walk.proofs.Truths.{is_none}
use Rattle.dir_rename.proofs.EndLemmas.{denied_looked, node_needs, spot_looked}
use Rattle.dir_rename.proofs.ends.look_in.Goals as goal

pub look_below-requires : goal.look_below-requires
look_below-requires g c = record { known = child_known (g.V.View.held c.args.view.now) (g.V.View.shown c.args.view.now) c.args.caller.now c.args.path.now c.args.at c.requires.parent }

pub returns-in-Some-clause-looked : goal.returns-in-Some-clause-looked
returns-in-Some-clause-looked g c = λ code.
    denied_looked (g.V.View.held c.args.view.now) (g.V.View.shown c.args.view.now) c.args.caller.now code c.args.path.now c.args.at c.requires.parent c.in-Some.reply
    (ap (λ p. lacks c.args.caller.now 3 p (node_of c.args.at.node)) (sym c.in_ok-dir.ensures) ∙ sym c.in_ok-reply.ensures ∙ c.in-Some.is)

pub returns-in-Ok-clause-looked : goal.returns-in-Ok-clause-looked
returns-in-Ok-clause-looked g c = λ code.
    spot_looked (g.V.View.held c.look_below.new.view) (g.V.View.shown c.look_below.new.view) c.args.caller.now code c.args.path.now c.args.at (parent_later c.look_below.ensures.on c.args.at c.requires.parent)
    (ap (λ p. lacks c.args.caller.now 3 p (node_of c.args.at.node)) (sym c.in_ok-dir.ensures) ∙ sym c.in_ok-reply.ensures ∙ is_none _ c.in_default.not-Some) c.in-Ok.field-0 c.in-Ok.ensures.look _ refl refl refl refl c.seen_in.ensures

pub returns-clause-need : goal.returns-clause-need
returns-clause-need g c = λ code n e.
    node_needs (g.V.View.held c.look_below.new.view) (g.V.View.shown c.look_below.new.view) c.args.caller.now code c.args.path.now c.args.at (parent_later c.look_below.ensures.on c.args.at c.requires.parent)
    (ap (λ p. lacks c.args.caller.now 3 p (node_of c.args.at.node)) (sym c.in_ok-dir.ensures) ∙ sym c.in_ok-reply.ensures ∙ is_none _ c.in_default.not-Some) n
    (child_needs (g.V.View.held c.look_below.new.view) (g.V.View.shown c.look_below.new.view) c.args.caller.now c.args.path.now c.args.at (parent_later c.look_below.ensures.on c.args.at c.requires.parent) n (c.in-Err.ensures.need n (same_error c.in-Err.stop (stop.Need n) e)))
