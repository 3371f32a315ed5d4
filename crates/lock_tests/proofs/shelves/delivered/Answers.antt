use Rattle.std.proofs.Common.{List, slice_get, ap, ◌∙◌}
use Rattle.lock_core.specs.declared.object.LockMode.{LockMode}
use Rattle.lock_tests.proofs.Shelving.{can_deliver}
use Rattle.lock_tests.proofs.shelves.delivered.Goals as goal

pub commit-requires-clause-can : goal.commit-requires-clause-can
commit-requires-clause-can g c = can_deliver c.begin-held.new.pass.seat c.begin-held.result _ c.begin-held.ensures.held
    (λ k h. ap (λ (l : List LockMode). slice_get l k) c.begin-held.ensures.plan ∙ c.shelf_plan-plan.ensures k h)
    c.begin-held.ensures.found.wide c.number.ensures.value c.used.ensures.value
