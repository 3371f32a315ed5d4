use Rattle.std.proofs.Common.{◌≤◌, ◌-◌, length, refl, arith}
use Rattle.op_create.proofs.PlaceLemmas.{depth_within, under_place}
use Rattle.op_create.proofs.eval.create_under.Goals as goal

pub refused_below-requires : goal.refused_below-requires
refused_below-requires g c =
    let within : c.args.depth ≤ length c.args.call.now.path.now =
    depth_within c.args.call.now c.args.new.now c.requires.create (g.V.View.held c.args.view.now) (g.V.View.shown c.args.view.now) c.args.visit c.requires.visited
    c.args.depth c.requires.lost c.requires.below c.stands.ensures in
    let front : c.args.depth - 1 ≤ length c.args.call.now.path.now = omega arith in
    front

pub names_from-requires-clause-within : goal.names_from-requires-clause-within
names_from-requires-clause-within g c =
    depth_within c.args.call.now c.args.new.now c.requires.create (g.V.View.held c.args.view.now) (g.V.View.shown c.args.view.now) c.args.visit c.requires.visited
    c.args.depth c.requires.lost c.requires.below c.stands.ensures

pub finish-requires-clause-place : goal.finish-requires-clause-place
finish-requires-clause-place g c =
    under_place c.args.call.now c.args.new.now c.requires.create (g.V.View.held c.args.view.now) (g.V.View.shown c.args.view.now) c.args.visit c.requires.visited
    c.args.depth c.requires.lost c.requires.below c.in_ok-refusal.refusal c.in_ok-refusal.ensures c.requires.looked _ c.into_items.ensures refl refl c.names_from.ensures
