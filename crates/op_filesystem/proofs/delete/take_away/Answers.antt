use Rattle.std.proofs.Common.{◌∷◌, [], ◌++◌, Err, refl, ap, sym, ◌∙◌}
use Rattle.namespace_model.specs.Replies.{success}
use Rattle.namespace_model.specs.Trees.{parent}
use Rattle.path_walk.proofs.CallAnswers.{stopped_by}
use Rattle.path_walk.proofs.CallLemmas.{looked_later}
use Rattle.op_filesystem.proofs.RootSteps.{is_top, all_go, below_needed, root_later, some_path}
use Rattle.op_filesystem.proofs.delete.take_away.Goals as goal

pub unreachable-requires : goal.unreachable-requires
unreachable-requires g c = some_path c.args.call.now c.requires.call c.requires.operation (c.in_default.ensures.none.0 refl)

pub walk_subtree-requires : goal.walk_subtree-requires
walk_subtree-requires g c = record { top = (c.args.call.now.path.now, is_top c.args.call.now c.requires.call c.requires.operation (g.V.View.held c.args.view.now) (g.V.View.shown c.args.view.now) c.args.reads.items c.args.root c.requires.root) }

pub returns-in_ok-ids-in-Ok-clause-evaluated : goal.returns-in_ok-ids-in-Ok-clause-evaluated
returns-in_ok-ids-in-Ok-clause-evaluated g c =
    c.settle_removal.ensures.evaluated (looked_later c.walk_subtree.ensures.on c.args.reads.items c.requires.root.seat.looked)
    (all_go c.args.call.now c.requires.call c.requires.operation (g.V.View.held c.walk_subtree.new.view) (g.V.View.shown c.walk_subtree.new.view) c.args.reads.items c.args.root
    (root_later c.walk_subtree.ensures.on c.args.call.now c.args.reads.items c.args.root c.requires.root) c.in-Ok.subtree _ _ (c.success-reply.ensures ∙ ap (success 202) c.new.ensures.items)
    (c.in-Ok.ensures.nodes c.args.call.now.path.now (is_top c.args.call.now c.requires.call c.requires.operation (g.V.View.held c.args.view.now) (g.V.View.shown c.args.view.now) c.args.reads.items c.args.root c.requires.root))
    (c.in-Some.ensures.last ∙ ap (λ n. parent c.args.call.now.path.now ++ n ∷ []) (sym c.in_ok-copy-in-Ok.ensures)) refl c.in_ok-ids-in-Ok.ensures)

pub returns-in-Err-clause-evaluated : goal.returns-in-Err-clause-evaluated
returns-in-Err-clause-evaluated g c =
    stopped_by (g.V.View.held c.walk_subtree.new.view) (g.V.View.shown c.walk_subtree.new.view) c.args.call.now c.in-Err.stop (λ n e.
    below_needed c.args.call.now c.requires.call c.requires.operation (g.V.View.held c.walk_subtree.new.view) (g.V.View.shown c.walk_subtree.new.view) c.args.reads.items c.args.root
    (root_later c.walk_subtree.ensures.on c.args.call.now c.args.reads.items c.args.root c.requires.root) n
    (c.in-Err.ensures.need n (ap Err e) c.args.call.now.path.now (is_top c.args.call.now c.requires.call c.requires.operation (g.V.View.held c.args.view.now) (g.V.View.shown c.args.view.now) c.args.reads.items c.args.root c.requires.root)))
