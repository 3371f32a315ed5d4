use Rattle.std.proofs.Common.{List, slice_get, ap, ◌∙◌}
use Rattle.lock_core.specs.declared.object.LockMode.{LockMode}
use Rattle.lock_core.specs.declared.object.LockMode.TheVariants as mode
use Rattle.lock_tests.proofs.Tallying.{every_held, can_tally_narrowed}
use Rattle.lock_tests.proofs.callers.narrowed.Goals as goal

pub look-requires-clause-some : goal.look-requires-clause-some
look-requires-clause-some g c = every_held c.args.reads c.begin-held.result c.requires.stripes.0
    (λ k h. ap (λ (l : List LockMode). slice_get l k) c.begin-held.ensures.plan ∙ c.every_stripe-plan.ensures k h)

pub commit-requires-clause-can : goal.commit-requires-clause-can
commit-requires-clause-can g c = can_tally_narrowed c.narrow.new.pass.seat c.narrow.new.held _ c.narrow.ensures.held
    (λ k h. ap (λ (l : List LockMode). slice_get l k) c.narrow.ensures.plan ∙ c.footprint-keep.ensures k h)
    c.narrow.ensures.found.wide c.number.ensures.value c.footprint-keep.result c.look.new.pass.seat.me.0.at.holds c.footprint-keep.ensures
    (λ k h. c.look.ensures.held.modes k mode.Exclusive h (ap (λ (l : List LockMode). slice_get l k) c.begin-held.ensures.plan ∙ c.every_stripe-plan.ensures k h))
    c.narrow.ensures.kept
