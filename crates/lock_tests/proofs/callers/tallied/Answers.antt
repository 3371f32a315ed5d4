use Rattle.std.proofs.Common.{List, slice_get, ap, ◌∙◌}
use Rattle.lock_core.specs.declared.object.LockMode.{LockMode}
use Rattle.lock_tests.proofs.Tallying.{read_held, can_tally}
use Rattle.lock_tests.proofs.callers.tallied.Goals as goal

pub look-requires-clause-some : goal.look-requires-clause-some
look-requires-clause-some g c = read_held c.args.reads c.args.writes c.begin-held.result c.requires.stripes.0
    (λ k h. ap (λ (l : List LockMode). slice_get l k) c.begin-held.ensures.plan ∙ c.footprint-plan.ensures k h)

pub commit-requires-clause-can : goal.commit-requires-clause-can
commit-requires-clause-can g c = can_tally c.look.new.pass.seat c.begin-held.result _ c.look.ensures.held
    (λ k h. ap (λ (l : List LockMode). slice_get l k) c.begin-held.ensures.plan ∙ c.footprint-plan.ensures k h)
    c.look.ensures.found.wide c.number.ensures.value _ c.look.ensures.looked.2

pub look-read-requires-clause-some : goal.look-read-requires-clause-some
look-read-requires-clause-some g c = read_held c.args.reads c.args.writes c.in-Err.held c.requires.stripes.0
    (λ k h. ap (λ (l : List LockMode). slice_get l k) (c.in-Err.ensures.back.modes ∙ c.begin-held.ensures.plan) ∙ c.footprint-plan.ensures k h)
