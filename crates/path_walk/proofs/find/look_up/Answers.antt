use Rattle.std.proofs.Common.{refl, subst}
use Rattle.inode_tree.specs.declared.draft.EvalStop.TheVariants as stop
use Rattle.path_walk.specs.Finds.{IsFindFor, IsLook}
use Rattle.path_walk.specs.Parents.{IsEntered}
use Rattle.path_walk.specs.Visits.{AreLookedAt}
use Rattle.path_walk.proofs.CallLemmas.{on_both}
use Rattle.path_walk.proofs.FindLemmas.{child_known, parent_later, look_finds, child_needs, stopped_finds, before_way, ok_then}
use Rattle.path_walk.proofs.StepLemmas.{same_error}
use Rattle.path_walk.proofs.find.look_up.Goals as goal

pub look_below-requires : goal.look_below-requires
look_below-requires g c = record {
  known = child_known (g.V.View.held c.enter.new.view) (g.V.View.shown c.enter.new.view) c.args.caller.now c.args.path.now c.in-Ok-At.at
      (subst (λ e. IsEntered (g.V.View.held c.enter.new.view) (g.V.View.shown c.enter.new.view) c.args.caller.now c.args.path.now e) c.in-Ok-At.field-0-is c.in-Ok-At.ensures.entered);
}

pub returns-in-Ok-At-clause-on : goal.returns-in-Ok-At-clause-on
returns-in-Ok-At-clause-on g c = on_both c.enter.ensures.on c.look_below.ensures.on

pub returns-in-Ok-At-clause-found : goal.returns-in-Ok-At-clause-found
returns-in-Ok-At-clause-found g c =
    ok_then c.look_below.result (IsLook (g.V.View.held c.look_below.new.view) (g.V.View.shown c.look_below.new.view) c.in-Ok-At.at.reads.items c.in-Ok-At.at.node c.in-Ok-At.at.name.now)
    (IsFindFor (g.V.View.shown c.look_below.new.view) c.args.caller.now c.args.path.now) c.look_below.ensures.look
    (λ f l. (look_finds (g.V.View.held c.look_below.new.view) (g.V.View.shown c.look_below.new.view) c.args.caller.now c.args.path.now c.in-Ok-At.at
    (parent_later c.look_below.ensures.on c.in-Ok-At.at
    (subst (λ e. IsEntered (g.V.View.held c.enter.new.view) (g.V.View.shown c.enter.new.view) c.args.caller.now c.args.path.now e) c.in-Ok-At.field-0-is c.in-Ok-At.ensures.entered)) f l).0)

pub returns-in-Ok-At-clause-looked : goal.returns-in-Ok-At-clause-looked
returns-in-Ok-At-clause-looked g c =
    ok_then c.look_below.result (IsLook (g.V.View.held c.look_below.new.view) (g.V.View.shown c.look_below.new.view) c.in-Ok-At.at.reads.items c.in-Ok-At.at.node c.in-Ok-At.at.name.now)
    (λ f. AreLookedAt (g.V.View.held c.look_below.new.view) (g.V.View.shown c.look_below.new.view) f.ids.items) c.look_below.ensures.look
    (λ f l. (look_finds (g.V.View.held c.look_below.new.view) (g.V.View.shown c.look_below.new.view) c.args.caller.now c.args.path.now c.in-Ok-At.at
    (parent_later c.look_below.ensures.on c.in-Ok-At.at
    (subst (λ e. IsEntered (g.V.View.held c.enter.new.view) (g.V.View.shown c.enter.new.view) c.args.caller.now c.args.path.now e) c.in-Ok-At.field-0-is c.in-Ok-At.ensures.entered)) f l).1)

pub returns-in-Ok-At-clause-need : goal.returns-in-Ok-At-clause-need
returns-in-Ok-At-clause-need g c = λ n e.
    child_needs (g.V.View.held c.look_below.new.view) (g.V.View.shown c.look_below.new.view) c.args.caller.now c.args.path.now c.in-Ok-At.at
    (parent_later c.look_below.ensures.on c.in-Ok-At.at
    (subst (λ e. IsEntered (g.V.View.held c.enter.new.view) (g.V.View.shown c.enter.new.view) c.args.caller.now c.args.path.now e) c.in-Ok-At.field-0-is c.in-Ok-At.ensures.entered))
    n (c.look_below.ensures.need n e)

pub returns-in-Ok-Ended-clause-found : goal.returns-in-Ok-Ended-clause-found
returns-in-Ok-Ended-clause-found g c =
    stopped_finds (g.V.View.held c.enter.new.view) (g.V.View.shown c.enter.new.view) c.args.caller.now c.args.path.now c.in-Ok-Ended.end _
    (subst (λ e. IsEntered (g.V.View.held c.enter.new.view) (g.V.View.shown c.enter.new.view) c.args.caller.now c.args.path.now e) c.in-Ok-Ended.field-0-is c.in-Ok-Ended.ensures.entered) refl

pub returns-in-Ok-Ended-clause-looked : goal.returns-in-Ok-Ended-clause-looked
returns-in-Ok-Ended-clause-looked g c =
    (subst (λ e. IsEntered (g.V.View.held c.enter.new.view) (g.V.View.shown c.enter.new.view) c.args.caller.now c.args.path.now e) c.in-Ok-Ended.field-0-is c.in-Ok-Ended.ensures.entered).looked

pub returns-in-Err-clause-need : goal.returns-in-Err-clause-need
returns-in-Err-clause-need g c = λ n e.
    before_way (g.V.View.held c.enter.new.view) (g.V.View.shown c.enter.new.view) c.args.caller.now c.args.path.now n (c.in-Err.ensures.need n (same_error c.in-Err.stop (stop.Need n) e))
