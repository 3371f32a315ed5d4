use Rattle.std.proofs.Common.{◌≤◌, ◌∙◌, arith}
use Rattle.service_workers.proofs.RoundLemmas.{added_plan}
use Rattle.service_workers.proofs.rounds.raise.Goals as goal

pub returns-then-above-clause-holding : goal.returns-then-above-clause-holding
returns-then-above-clause-holding g c =
    let e = c.extend.ensures in
    let here : c.args.need.stripe ≤ c.args.need.stripe = omega arith in
    record {
      own = e.same.table ∙ c.requires.own;
      same = e.same;
      holds = e.held;
      found = e.found;
      planned = added_plan c.args.holding.held c.extend.new.held c.args.holding.plan c.set.new.self c.args.need.stripe c.args.need.mode c.requires.planned c.requires.stripe
          (c.is_above-above.ensures.0 c.if-above.true c.args.need.stripe here c.requires.stripe) c.set.ensures e.plan e.wide;
      seen = e.seen;
      mine = e.mine;
      last = e.last;
    }
