use Rattle.std.proofs.Common.{length, take, refl, ap, sym, subst, ◌∙◌, Err}
use Rattle.inode_tree.specs.Inodes.{node_of}
use Rattle.namespace_model.specs.Refusals.{lacks}
use Rattle.namespace_model.specs.Trees.{Path}
use Rattle.path_walk.proofs.CallAnswers.{stopped_by}
use Rattle.path_walk.proofs.FindLemmas.{child_known, look_finds, parent_later}
use Rattle.op_create.specs.Creates.{IsPlace}
use Rattle.op_create.proofs.CreateLemmas.{answer_draft}
use Rattle.op_create.proofs.PlaceLemmas.{lacks_comes, look_needed, look_place}
use Rattle.op_create.proofs.eval.create_in.Goals as goal

pub returns-in_ok-answered-in-Some-clause-evaluated : goal.returns-in_ok-answered-in-Some-clause-evaluated
returns-in_ok-answered-in-Some-clause-evaluated g c =
    answer_draft c.args.call.now c.args.new.now c.requires.create _ _ c.args.at.reads.items c.in-Some.reply c.in_ok-answered-in-Some.field-0 c.requires.parent.looked c.in_ok-answered-in-Some.ensures
    (lacks_comes c.args.call.now c.args.new.now c.requires.create _ _ c.args.at c.requires.parent c.in_ok-denied.denied
    (c.in_ok-denied.ensures ∙ ap (λ (l : Path). lacks c.args.call.now.caller.now 3 (take (length l) c.args.call.now.path.now) (node_of c.args.at.node)) c.names.ensures) c.in-Some.reply c.in-Some.is)

pub look_below-requires : goal.look_below-requires
look_below-requires g c = record { known = child_known (g.V.View.held c.args.view.now) (g.V.View.shown c.args.view.now) c.args.call.now.caller.now c.args.call.now.path.now c.args.at c.requires.parent }

pub finish-requires-clause-place : goal.finish-requires-clause-place
finish-requires-clause-place g c =
    let here = parent_later c.look_below.ensures.on c.args.at c.requires.parent in
    let finds = look_finds (g.V.View.held c.look_below.new.view) (g.V.View.shown c.look_below.new.view) c.args.call.now.caller.now c.args.call.now.path.now c.args.at here c.in-Ok.field-0 c.in-Ok.ensures.look in
    subst (λ r. IsPlace (g.V.View.held c.look_below.new.view) (g.V.View.shown c.look_below.new.view) c.args.call.now c.args.new.now r
    (record { reads = c.in-Ok.field-0.ids; base = record { id = c.args.at.id; node = c.args.at.node }; replaced = c.replaced_by.result; names = c.from_ref.result }))
    (sym c.in_ok-refusal-in-Ok.ensures)
    (look_place c.args.call.now c.args.new.now c.requires.create (g.V.View.held c.look_below.new.view) (g.V.View.shown c.look_below.new.view) c.args.at here c.in_ok-denied.denied
    (c.in_ok-denied.ensures ∙ ap (λ (l : Path). lacks c.args.call.now.caller.now 3 (take (length l) c.args.call.now.path.now) (node_of c.args.at.node)) c.names.ensures) c.in-None.is
    c.in-Ok.field-0 finds.0 finds.1
    (record { reads = c.in-Ok.field-0.ids; base = record { id = c.args.at.id; node = c.args.at.node }; replaced = c.replaced_by.result; names = c.from_ref.result })
    refl refl c.replaced_by.ensures c.from_ref.ensures.value)

pub returns-in-Err-clause-evaluated : goal.returns-in-Err-clause-evaluated
returns-in-Err-clause-evaluated g c =
    stopped_by (g.V.View.held c.look_below.new.view) (g.V.View.shown c.look_below.new.view) c.args.call.now c.in-Err.stop (λ n e. look_needed c.args.call.now c.args.new.now c.requires.create (g.V.View.held c.look_below.new.view) (g.V.View.shown c.look_below.new.view) c.args.at (parent_later c.look_below.ensures.on c.args.at c.requires.parent) c.in_ok-denied.denied
    (c.in_ok-denied.ensures ∙ ap (λ (l : Path). lacks c.args.call.now.caller.now 3 (take (length l) c.args.call.now.path.now) (node_of c.args.at.node)) c.names.ensures) c.in-None.is
    n (c.in-Err.ensures.need n (ap Err e)))
