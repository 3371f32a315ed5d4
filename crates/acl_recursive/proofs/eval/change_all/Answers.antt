use Rattle.std.proofs.Common.{◌++◌, Err, ap, refl, subst, ◌∙◌}
use Rattle.inode_tree.specs.Promises.{numbers_of}
use Rattle.path_walk.proofs.CallAnswers.{stopped_by}
use Rattle.path_walk.proofs.CallLemmas.{on_both, agrees_earlier}
use Rattle.path_order.specs.PagesBelow.{ids_in}
use Rattle.acl_recursive.specs.Batched.{turns_of, IsBeginning}
use Rattle.acl_recursive.proofs.BatchAnswers.{batch_needed, held_later, nothing_ran, read_none, read_way, target_later, way_needed}
use Rattle.acl_recursive.proofs.eval.change_all.Goals as goal

pub tell-requires-clause-reads : goal.tell-requires-clause-reads
tell-requires-clause-reads g c =
    read_none c.args.call.now c.requires.call c.args.asked.now c.requires.operation (g.V.View.held c.begin.new.view) (g.V.View.shown c.begin.new.view) c.args.target (target_later c.begin.ensures.on c.args.call.now c.args.target c.requires.target)
    (subst (λ o. IsBeginning (g.V.View.held c.begin.new.view) (g.V.View.shown c.begin.new.view) c.args.call.now.path.now c.args.asked.now.token.now o) c.in-Ok-None.field-0-is c.in-Ok-None.ensures.begins)

pub tell-requires-clause-run : goal.tell-requires-clause-run
tell-requires-clause-run g c =
    nothing_ran c.args.call.now c.requires.call c.args.asked.now c.requires.operation (g.V.View.held c.begin.new.view) (g.V.View.shown c.begin.new.view) _
    (subst (λ o. IsBeginning (g.V.View.held c.begin.new.view) (g.V.View.shown c.begin.new.view) c.args.call.now.path.now c.args.asked.now.token.now o) c.in-Ok-None.field-0-is c.in-Ok-None.ensures.begins)
    (c.new.ensures (turns_of c.args.call.now c.args.asked.now) c.args.call.now.moment c.args.call.now.path.now) refl

pub returns-in_err-reads-in-Ok-clause-on : goal.returns-in_err-reads-in-Ok-clause-on
returns-in_err-reads-in-Ok-clause-on g c = on_both c.begin.ensures.on c.take_turns.ensures.on

pub tell-requires-in-Ok-clause-reads : goal.tell-requires-in-Ok-clause-reads
tell-requires-in-Ok-clause-reads g c =
    let begun = subst (λ o. IsBeginning (g.V.View.held c.begin.new.view) (g.V.View.shown c.begin.new.view) c.args.call.now.path.now c.args.asked.now.token.now o) c.in-Ok-Some.field-0-is c.in-Ok-Some.ensures.begins in
    read_way c.args.call.now c.requires.call c.args.asked.now c.requires.operation (g.V.View.held c.take_turns.new.view) (g.V.View.shown c.take_turns.new.view) c.args.target
    (target_later c.take_turns.ensures.on c.args.call.now c.args.target (target_later c.begin.ensures.on c.args.call.now c.args.target c.requires.target)) c.in-Ok-Some.field-0-0.way.items c.in_ok-reads-in-Ok.reads.items
    (λ parts t stands agrees. begun.way parts t stands (agrees_earlier c.take_turns.ensures.on parts agrees))
    (held_later c.take_turns.ensures.on c.in-Ok-Some.field-0-0.way.items begun.looked)
    (c.in_ok-reads-in-Ok.ensures ∙ ap (λ l. numbers_of c.args.target.reads.items ++ ids_in l) c.as_slice.ensures.value)

pub returns-in-Ok-clause-on : goal.returns-in-Ok-clause-on
returns-in-Ok-clause-on g c = on_both c.begin.ensures.on c.take_turns.ensures.on

pub returns-in-Ok-Some-clause-on : goal.returns-in-Ok-Some-clause-on
returns-in-Ok-Some-clause-on g c = on_both c.begin.ensures.on c.take_turns.ensures.on

pub returns-in-Ok-Some-clause-evaluated : goal.returns-in-Ok-Some-clause-evaluated
returns-in-Ok-Some-clause-evaluated g c =
    stopped_by (g.V.View.held c.take_turns.new.view) (g.V.View.shown c.take_turns.new.view) c.args.call.now c.in-Err-take_turns.stop (λ n e.
    batch_needed c.args.call.now c.requires.call c.args.asked.now c.requires.operation (g.V.View.held c.take_turns.new.view) (g.V.View.shown c.take_turns.new.view) c.args.target
    (target_later c.take_turns.ensures.on c.args.call.now c.args.target (target_later c.begin.ensures.on c.args.call.now c.args.target c.requires.target)) n (c.in-Err-take_turns.ensures.need n (ap Err e)))

pub returns-clause-evaluated : goal.returns-clause-evaluated
returns-clause-evaluated g c =
    stopped_by (g.V.View.held c.begin.new.view) (g.V.View.shown c.begin.new.view) c.args.call.now c.in-Err.stop (λ n e.
    way_needed c.args.call.now c.requires.call c.args.asked.now c.requires.operation (g.V.View.held c.begin.new.view) (g.V.View.shown c.begin.new.view) c.args.target
    (target_later c.begin.ensures.on c.args.call.now c.args.target c.requires.target) n (c.in-Err.ensures.need n (ap Err e)))
