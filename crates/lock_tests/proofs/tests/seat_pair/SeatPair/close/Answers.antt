use Rattle.lock_tests.proofs.Pairing.{every_seat}
use Rattle.lock_tests.proofs.tests.seat_pair.SeatPair.close.Goals as goal

pub close-requires : goal.close-requires
close-requires c = record { every = every_seat _ _ _ _ _ _ c.self.invariant c.in_ok-push.ensures.items c.in_ok-push-2.ensures.items }
