use Rattle.lock_tests.proofs.Pairing.{again, with_both}
use Rattle.lock_tests.proofs.tests.pass_pair.PassPair.second_commits.Goals as goal

pub invariant_of-self : goal.invariant_of-self
invariant_of-self g c =
    with_both _ _ _ _ _ c.tallied.new.pass c.self.invariant c.self.invariant.first_is (again _ 1 _ _ c.self.invariant.second_is c.tallied.ensures.same c.tallied.ensures.nothing)
