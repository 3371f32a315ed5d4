use Rattle.std.proofs.Common.{◌++◌, ◌∷◌, [], List, ap, sym, subst, ◌∙◌, append_assoc}
use Rattle.lock_core.specs.Sound.{opened}
use Rattle.lock_core.specs.Runs.{IsRunStop}
use Rattle.lock_core.proofs.Running.{runs-snoc, run_stops, passed_on}
use Rattle.lock_core.proofs.run.run_events.Goals as goal

pub loop-event-preserved : goal.loop-event-preserved
loop-event-preserved g c =
    record {
      left = append_assoc c.loop-event.yielded (c.in-Some.event ∷ []) _ ∙ ap (λ (l : List _). c.loop-event.yielded ++ l) (sym c.in-Some.ensures.steps.0)
          ∙ c.loop-event.invariant.left;
      so_far = runs-snoc g.P.Parted.object _ _ _ c.loop-event.yielded c.in-Some.event c.loop-event.invariant.so_far c.in_ok-step.ensures.allowed c.in_ok-step.ensures.stepped;
      kept = c.in_ok-step.ensures.kept;
    }

pub returns-in_err-step-clause-stopped : goal.returns-in_err-step-clause-stopped
returns-in_err-step-clause-stopped g c =
    let all = ap (λ (l : List _). c.loop-event.yielded ++ l) (sym c.in-Some.ensures.steps.0) ∙ c.loop-event.invariant.left in
    passed_on c.from_residual-in_err-step.result c.in_err-step.field-0.0 _ c.from_residual-in_err-step.ensures.1
    (subst (λ (l : List _). IsRunStop g.P.Parted.object (opened g.P.Parted.object []) l c.in_err-step.field-0.0) all
    (run_stops g.P.Parted.object _ _ c.loop-event.yielded _ c.in-Some.event c.in_err-step.field-0.0 c.loop-event.invariant.so_far c.in_err-step.ensures.stopped))
