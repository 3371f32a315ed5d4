use Rattle.std.proofs.Common.{◌≡◌, ◌+◌, [], ◌∷◌, length, sym, ap, subst, ◌∙◌, length-append, arith, refl}
use Rattle.std.specs.Prelude.{All}
use Rattle.commit_journal.specs.declared.limits.TheConstants.{JOURNAL_MOST}
use Rattle.conn_workers.specs.Counted.{tally_by, OwnsWhatItSaw}
use Rattle.hns_commands.proofs.ServeLemmas.{taken, all_more, total_step}
use Rattle.hns_commands.proofs.team.stop_workers.Goals as goal

pub each-preserved : goal.each-preserved
each-preserved g c =
    let begins : c.each.workers.items ≡ c.in-Some.worker ∷ c.pop_front.new.self.items = c.in-Some.ensures.items in
    let grown = c.in_ok-push.ensures.items in
    let many = ap length begins in
    let longer : length c.push.new.self.items ≡ length c.each.passes.items + 1 = ap length grown ∙ length-append c.each.passes.items (c.into_parts-pass.result.0 ∷ []) in
    let most : JOURNAL_MOST ≡ 4194304 = refl in
    let parts = c.into_parts-pass.ensures in
    let sums = c.plus-total.ensures in
    let before = c.each.invariant in (
      taken (λ worker. worker.pass.pass) c.each.passes.items c.push.new.self.items c.each.workers.items c.pop_front.new.self.items _ c.in-Some.worker c.into_parts-pass.result.0 before.0 begins parts.pass grown,
      total_step tally_by c.each.passes.items c.push.new.self.items c.into_parts-pass.result.0 c.each.total c.into_parts-pass.result.1 c.plus-total.result before.1 (parts.tally ∙ ap tally_by (sym parts.pass))
          sums.ok sums.refused sums.denied grown,
      omega (arith, many, longer, before.2),
      omega (arith, longer, most, sums.ok, parts.ok, before.3),
      omega (arith, longer, most, sums.refused, parts.refused, before.4),
      omega (arith, longer, most, sums.denied, parts.denied, before.5),
      subst (All OwnsWhatItSaw) (sym grown) (all_more OwnsWhatItSaw c.each.passes.items c.into_parts-pass.result.0 before.6 (subst OwnsWhatItSaw (sym parts.pass) parts.own)),
    )
