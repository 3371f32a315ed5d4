use Rattle.std.proofs.Common.{subst, sym}
use Rattle.inode_tree.specs.declared.draft.EvalStop.TheVariants as stop
use Rattle.path_walk.proofs.StepLemmas.{same_error}
use Rattle.path_walk.specs.Parents.{IsEntered}
use Rattle.path_walk.proofs.CallLemmas.{on_both}
use Rattle.dir_rename.specs.Ends.{IsLooked}
use Rattle.dir_rename.specs.declared.ends.Looked.TheVariants as looked
use Rattle.dir_rename.proofs.EndLemmas.{stopped_looked, way_needs}
use Rattle.dir_rename.proofs.ends.look_at.Goals as goal

pub look_in-requires-clause-parent : goal.look_in-requires-clause-parent
look_in-requires-clause-parent g c =
    subst (λ e. IsEntered (g.V.View.held c.enter.new.view) (g.V.View.shown c.enter.new.view) c.args.caller.now c.args.path.now e) c.in-Ok-At.field-0-is c.in-Ok-At.ensures.entered

pub returns-in-Ok-At-clause-on : goal.returns-in-Ok-At-clause-on
returns-in-Ok-At-clause-on g c = on_both c.enter.ensures.on c.look_in.ensures.on

pub returns-in-Ok-At-clause-looked : goal.returns-in-Ok-At-clause-looked
returns-in-Ok-At-clause-looked g c = c.look_in.ensures.looked c.args.code

pub returns-in-Ok-At-clause-need : goal.returns-in-Ok-At-clause-need
returns-in-Ok-At-clause-need g c = c.look_in.ensures.need c.args.code

pub returns-in-Ok-Ended-clause-looked : goal.returns-in-Ok-Ended-clause-looked
returns-in-Ok-Ended-clause-looked g c =
    subst (λ r. IsLooked (g.V.View.held c.enter.new.view) (g.V.View.shown c.enter.new.view) c.args.caller.now c.args.code c.args.path.now (looked.Ended c.in-Ok-Ended.ids r)) (sym c.stop_reply.ensures)
    (stopped_looked (g.V.View.held c.enter.new.view) (g.V.View.shown c.enter.new.view) c.args.caller.now c.args.code c.args.path.now c.in-Ok-Ended.ids.items c.in-Ok-Ended.end
    (subst (λ e. IsEntered (g.V.View.held c.enter.new.view) (g.V.View.shown c.enter.new.view) c.args.caller.now c.args.path.now e) c.in-Ok-Ended.field-0-is c.in-Ok-Ended.ensures.entered))

pub returns-in-Err-clause-need : goal.returns-in-Err-clause-need
returns-in-Err-clause-need g c = λ n e.
    way_needs (g.V.View.held c.enter.new.view) (g.V.View.shown c.enter.new.view) c.args.caller.now c.args.code c.args.path.now n (c.in-Err.ensures.need n (same_error c.in-Err.stop (stop.Need n) e))
