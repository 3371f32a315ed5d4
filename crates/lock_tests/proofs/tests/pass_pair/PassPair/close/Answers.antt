use Rattle.lock_tests.proofs.Pairing.{both_every}
use Rattle.lock_tests.proofs.tests.pass_pair.PassPair.close.Goals as goal

pub close-requires : goal.close-requires
close-requires c = both_every _ _ _ _ _ _ c.self.invariant c.in_ok-push.ensures.items c.in_ok-push-2.ensures.items
