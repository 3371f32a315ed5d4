use Rattle.std.proofs.Common.{Err, ap}
use Rattle.path_walk.proofs.CallAnswers.{stopped_by}
use Rattle.path_walk.proofs.CallLemmas.{on_both}
use Rattle.op_create.proofs.PlaceLemmas.{path_is_some, way_needed}
use Rattle.op_create.proofs.eval.create.Goals as goal

pub visit-requires : goal.visit-requires
visit-requires g c = record { below = path_is_some _ _ c.requires.create }

pub returns-in-Ok-clause-on : goal.returns-in-Ok-clause-on
returns-in-Ok-clause-on g c = on_both c.visit.ensures.on c.create_behind.ensures.on

pub returns-in-Err-clause-evaluated : goal.returns-in-Err-clause-evaluated
returns-in-Err-clause-evaluated g c = stopped_by (g.V.View.held c.visit.new.view) (g.V.View.shown c.visit.new.view) c.args.call.now c.in-Err.stop (λ n e. way_needed c.args.call.now c.args.new.now c.requires.create (g.V.View.held c.visit.new.view) (g.V.View.shown c.visit.new.view) n (c.in-Err.ensures.need n (ap Err e)))
