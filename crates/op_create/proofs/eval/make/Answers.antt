use Rattle.std.proofs.Common.{List, length, ap, subst, ◌∙◌}
use Rattle.inode_tree.specs.declared.id.NodeId.{NodeId}
use Rattle.path_walk.specs.Holds.{AreHeldToWrite, LacksStripe}
use Rattle.op_create.specs.Chains.{to_write}
use Rattle.op_create.proofs.MadeLemmas.{length_next, made_draft, write_need}
use Rattle.op_create.proofs.PlaceLemmas.{few_names}
use Rattle.op_create.proofs.eval.make.Goals as goal

pub drawn-requires-clause-many : goal.drawn-requires-clause-many
drawn-requires-clause-many g c = few_names c.args.call.now c.args.new.now c.requires.create c.requires.place.above c.args.place.names.now c.requires.place.named

pub made-requires-clause-many : goal.made-requires-clause-many
made-requires-clause-many g c = ap (λ (l : List NodeId). length l) c.in_ok-ids.ensures ∙ length_next _ _ _

pub made-requires-clause-few : goal.made-requires-clause-few
made-requires-clause-few g c = few_names c.args.call.now c.args.new.now c.requires.create c.requires.place.above c.args.place.names.now c.requires.place.named

pub returns-in-Some : goal.returns-in-Some
returns-in-Some g c =
    write_need _ _ c.args.call.now c.args.new.now c.requires.create c.args.place c.requires.place c.in_ok-ids.ids.items c.in_ok-ids.ensures c.in_ok-writes.writes.items
    (c.in_ok-writes.ensures ∙ ap (to_write c.args.place.base.id c.args.place.replaced) c.as_slice.ensures.value)
    c.in-Some.need (subst (λ l. LacksStripe (g.V.View.held c.args.view.now) l c.in-Some.need) c.as_slice-2.ensures.value c.in-Some.ensures)

pub returns-in_ok-made-in-None : goal.returns-in_ok-made-in-None
returns-in_ok-made-in-None g c =
    made_draft _ _ c.args.call.now c.args.new.now c.requires.create c.args.place c.requires.place c.in_ok-ids.ids.items c.in_ok-ids.ensures c.in_ok-writes.writes.items
    (c.in_ok-writes.ensures ∙ ap (to_write c.args.place.base.id c.args.place.replaced) c.as_slice.ensures.value)
    c.in_ok-made-in-None.field-0 (subst (AreHeldToWrite (g.V.View.held c.args.view.now)) c.as_slice-2.ensures.value c.in-None.ensures) c.in_ok-made-in-None.ensures
