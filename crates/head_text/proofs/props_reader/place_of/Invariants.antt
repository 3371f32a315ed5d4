use Rattle.std.proofs.Common.{◌≡◌, ◌+◌, drop, map}
use Rattle.head_text.specs.Properties.{property_of}
use Rattle.head_text.specs.PropertyPlaces.{place_of}
use Rattle.head_text.proofs.props_reader.place_of.Given as goal

abbrev pub invariant-loop-pair : goal.invariant-loop-pair
invariant-loop-pair l =
    (l.at ≡ l.pair-index) × (l.at + place_of l.name (map property_of (drop l.pair-index l.pairs)) ≡ place_of l.name (map property_of l.pairs))
