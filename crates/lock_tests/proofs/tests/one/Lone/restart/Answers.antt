use Rattle.lock_tests.proofs.Pairing.{only_every, by_one, open_idle}
use Rattle.lock_tests.proofs.tests.one.Lone.restart.Goals as goal

pub close-journal-requires : goal.close-journal-requires
close-journal-requires g c = only_every _ _ _ _ c.self.invariant c.in_ok-push.ensures.items

pub start_from-requires-clause-by : goal.start_from-requires-clause-by
start_from-requires-clause-by g c = by_one g.P.Parted.object _ _ _ _ _ c.self.invariant c.in_ok-push.ensures.items c.close-journal.ensures.entries

pub alone-requires-clause-idle : goal.alone-requires-clause-idle
alone-requires-clause-idle g c = open_idle g.P.Parted.object _ _ c.in_ok-store.ensures.new
