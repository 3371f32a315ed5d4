use Rattle.std.proofs.Common.{◌≡◌, [], drop, map}
use Rattle.head_text.specs.Properties.{property_of}
use Rattle.head_text.specs.PropertyTexts.{read_from}
use Rattle.head_text.proofs.props_reader.pairs_of.Given as goal

abbrev pub invariant-loop-at : goal.invariant-loop-at
invariant-loop-at l =
    read_from l.at (map property_of l.pairs.items) (drop l.at (map (λ item. item.now) l.items)) ≡ read_from 0 [] (map (λ item. item.now) l.items)
