use Rattle.std.proofs.Common.{◌≡◌, ◌+◌, drop}
use Rattle.acl_text.specs.Places.{place_of, stands_in}
use Rattle.acl_text.proofs.entries.place.Given as goal

abbrev pub invariant-loop-entry : goal.invariant-loop-entry
invariant-loop-entry l =
    (l.at ≡ l.entry-index) × (l.at + place_of l.who (drop l.entry-index l.items) ≡ place_of l.who l.items)
    × (stands_in l.who (drop l.entry-index l.items) ≡ stands_in l.who l.items)
