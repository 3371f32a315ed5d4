use Rattle.std.proofs.Common.{ap, sym, arith, sum_by, take, ◌∙◌, List, length, ◌≡◌, ℕ}
use Rattle.std.proofs.Math.Seq.{take-length}
use Rattle.lock_core.specs.declared.object.LockMode.{LockMode}
use Rattle.path_locks.specs.Plans.{width}
use Rattle.path_locks.proofs.plan.Plan.wide.Goals as goal

pub returns : goal.returns
returns c =
    let h = c.loop-mode-test.false in
    let a = c.loop-mode.auto.mode-index-end in
    let wide : length c.args.self.now ≡ 64 = ap (λ (l : List LockMode). length l) (sym c.self.view_is) ∙ c.self.invariant in
    let end : c.loop-mode.mode-index ≡ length c.args.self.now = omega arith in
    c.loop-mode.invariant.0 ∙ ap (λ (i : ℕ). sum_by width (take i c.args.self.now)) end ∙ ap (λ (l : List LockMode). sum_by width l) (take-length c.args.self.now)
