use Rattle.std.proofs.Common.{Err, ap, sym, subst}
use Rattle.path_order.specs.Subtrees.{IsTop}
use Rattle.path_walk.specs.Visits.{IsHeldAndShown}
use Rattle.path_walk.proofs.CallAnswers.{stopped_by}
use Rattle.dir_rename.specs.Stages.{moving_of, reads_all}
use Rattle.dir_rename.proofs.RenameLemmas.{some_path, path_limits, ends_later, below_needs}
use Rattle.dir_rename.proofs.eval.fit_through.Goals as goal

pub room_below-room-requires : goal.room_below-room-requires
room_below-room-requires g c = record {
  below = some_path c.args.call.now c.requires.call c.args.asked.now c.requires.operation;
  limits = path_limits c.args.call.now c.requires.call c.args.asked.now c.requires.operation;
}

pub look_through-requires-clause-top : goal.look_through-requires-clause-top
look_through-requires-clause-top g c = (c.args.asked.now.source.now, subst (λ s. IsTop (g.V.View.shown c.args.view.now) c.args.asked.now.source.now s) (sym c.in_ok-top.ensures) c.requires.ends.is_top)

pub look_through-requires-clause-looked : goal.look_through-requires-clause-looked
look_through-requires-clause-looked g c = subst (λ s. IsHeldAndShown (g.V.View.held c.args.view.now) (g.V.View.shown c.args.view.now) s.id.0) (sym c.in_ok-top.ensures) c.requires.ends.top_held

pub fit_in-requires-clause-ends : goal.fit_in-requires-clause-ends
fit_in-requires-clause-ends g c = ends_later c.look_through.ensures.on c.args.call.now c.args.asked.now c.args.ends (reads_all (moving_of c.args.call.now c.args.asked.now) c.args.ends) c.requires.ends

pub fit_in-requires-clause-through : goal.fit_in-requires-clause-through
fit_in-requires-clause-through g c = (
  c.room_below-room.result,
  (c.room_below-room.ensures, c.in-Ok.ensures.through c.args.asked.now.source.now (subst (λ s. IsTop (g.V.View.shown c.args.view.now) c.args.asked.now.source.now s) (sym c.in_ok-top.ensures) c.requires.ends.is_top)),
)

pub returns-in-Err-clause-evaluated : goal.returns-in-Err-clause-evaluated
returns-in-Err-clause-evaluated g c =
    stopped_by (g.V.View.held c.look_through.new.view) (g.V.View.shown c.look_through.new.view) c.args.call.now c.in-Err.stop (λ n e.
    below_needs c.args.call.now c.requires.call c.args.asked.now c.requires.operation (g.V.View.held c.look_through.new.view) (g.V.View.shown c.look_through.new.view) c.args.ends
    (ends_later c.look_through.ensures.on c.args.call.now c.args.asked.now c.args.ends (reads_all (moving_of c.args.call.now c.args.asked.now) c.args.ends) c.requires.ends)
    n (c.in-Err.ensures.need n (ap Err e) c.args.asked.now.source.now (subst (λ s. IsTop (g.V.View.shown c.args.view.now) c.args.asked.now.source.now s) (sym c.in_ok-top.ensures) c.requires.ends.is_top)))
