use Rattle.std.proofs.Common.{List, slice_get, ap, ◌∙◌, arith}
use Rattle.lock_core.specs.declared.object.LockMode.{LockMode}
use Rattle.lock_tests.proofs.Tallying.{read_held, not_none}
use Rattle.lock_tests.proofs.tests.calls.read.Goals as goal

pub look-part-requires-clause-some : goal.look-part-requires-clause-some
look-part-requires-clause-some g c =
    let t = read_held c.args.stripe 63 c.acquire-held.result (let h = c.requires.stripe in omega arith)
    (λ k h. ap (λ (l : List LockMode). slice_get l k) c.acquire-held.ensures.plan ∙ c.footprint-plan.ensures k h) in
    not_none c.acquire-held.result.modes c.args.stripe t.0 t.1 t.2
