use Rattle.lock_tests.proofs.Pairing.{again_seat, again_twice, still_nothing, with_seats}
use Rattle.lock_tests.proofs.tests.calls.journal_numbers.Goals as goal

pub invariant_of-pair : goal.invariant_of-pair
invariant_of-pair g c =
    with_seats _ _ _ _ _ _ c.pair.invariant
    (again_seat _ 0 _ _ c.pair.invariant.first_is (again_twice _ _ _ c.take_journal-journal.ensures.same c.give_journal.ensures.same)
    (still_nothing _ _ _ c.pair.invariant.first_is.nothing c.take_journal-journal.ensures.held c.give_journal.ensures.held c.give_journal.ensures.journal))
    c.pair.invariant.second_is
