use Rattle.service_tests.proofs.TeamLemmas.{last_one, the_others, both_back}
use Rattle.service_tests.proofs.tests.sides.both_play.Goals as goal

pub both_played-pass_1-requires-clause-own : goal.both_played-pass_1-requires-clause-own
both_played-pass_1-requires-clause-own g c κs within = (
  (last_one _ _ _ _ (the_others _ _ _ _ c.team.invariant.idle c.in-Some.ensures.items) c.in-Some-pop.ensures.items).own,
  (last_one _ _ _ _ c.team.invariant.idle c.in-Some.ensures.items).own,
)

pub both_played-pass_1-requires-clause-nothing : goal.both_played-pass_1-requires-clause-nothing
both_played-pass_1-requires-clause-nothing g c κs within = (
  (last_one _ _ _ _ (the_others _ _ _ _ c.team.invariant.idle c.in-Some.ensures.items) c.in-Some-pop.ensures.items).nothing,
  (last_one _ _ _ _ c.team.invariant.idle c.in-Some.ensures.items).nothing,
)

pub invariant_of-result : goal.invariant_of-result
invariant_of-result g c =
    let same = c.both_played-pass_1.ensures.again in
    let free = c.both_played-pass_1.ensures.nothing in
    both_back _ _ _ _ _ _ _ _ _ _ c.team.invariant c.in-Some.ensures.items c.in-Some-pop.ensures.items same.1 free.1 same.0 free.0
    c.in_ok-push.ensures.items c.in_ok-push-2.ensures.items
