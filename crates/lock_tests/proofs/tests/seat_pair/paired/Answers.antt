use Rattle.lock_core.specs.Tallied.{tally}
use Rattle.lock_tests.proofs.Pairing.{both_seats, none_left}
use Rattle.lock_tests.proofs.tests.seat_pair.paired.Goals as goal

pub invariant_of-result : goal.invariant_of-result
invariant_of-result c =
    both_seats tally c.args.table c.args.seats.items c.pop.new.self.items c.pop-2.new.self.items c.in-Some-pop.first c.in-Some.second c.requires.new c.requires.many.0
    c.in-Some.ensures.items c.in-Some-pop.ensures.items
    (none_left c.args.seats.items c.pop.new.self.items c.pop-2.new.self.items c.in-Some-pop.first c.in-Some.second c.requires.many.1 c.in-Some.ensures.items
    c.in-Some-pop.ensures.items)
