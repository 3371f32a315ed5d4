use Rattle.lock_tests.proofs.Pairing.{again, with_both}
use Rattle.lock_tests.proofs.tests.pass_pair.PassPair.churn.Goals as goal

pub invariant_of-result : goal.invariant_of-result
invariant_of-result g c =
    with_both _ _ _ _ _ _ c.self.invariant (again _ 0 _ _ c.self.invariant.first_is c.both_churned-first.ensures.same.0 c.both_churned-first.ensures.nothing.0)
    (again _ 1 _ _ c.self.invariant.second_is c.both_churned-first.ensures.same.1 c.both_churned-first.ensures.nothing.1)
