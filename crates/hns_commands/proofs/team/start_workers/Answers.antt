use Rattle.std.proofs.Common.{◌≡◌, ◌∷◌, length, ap, arith}
use Rattle.hns_commands.specs.Serves.{IsUnused}
use Rattle.hns_commands.proofs.ServeLemmas.{moved, all_behind}
use Rattle.hns_commands.proofs.team.start_workers.Goals as goal

pub each-preserved : goal.each-preserved
each-preserved g c =
    let begins : c.each.passes.items ≡ c.in-Some.pass ∷ c.pop_front.new.self.items = c.in-Some.ensures.items in
    let many = ap length begins in
    let clocks = ap length c.in-Some-pop_front.ensures.items in (
      moved (λ worker. worker.pass.pass) c.each.workers.items c.push.new.self.items c.each.passes.items c.pop_front.new.self.items c.args.passes.items _ c.in-Some.pass c.each.invariant.0 begins c.new.ensures
          c.in_ok-push.ensures.items,
      omega (arith, many, clocks, c.each.invariant.1),
      all_behind IsUnused c.each.passes.items c.pop_front.new.self.items c.in-Some.pass begins c.each.invariant.2,
    )
