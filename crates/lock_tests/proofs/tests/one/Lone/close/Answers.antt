use Rattle.lock_tests.proofs.Pairing.{only_every}
use Rattle.lock_tests.proofs.tests.one.Lone.close.Goals as goal

pub close-requires : goal.close-requires
close-requires g c = only_every _ _ _ _ c.self.invariant c.in_ok-push.ensures.items
