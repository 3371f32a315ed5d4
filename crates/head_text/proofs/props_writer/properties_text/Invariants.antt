use Rattle.std.proofs.Common.{◌≡◌, take, map}
use Rattle.std.specs.List.{join_with_byte}
use Rattle.head_text.specs.Properties.{property_of}
use Rattle.head_text.specs.PropertyTexts.{property_text}
use Rattle.head_text.proofs.props_writer.properties_text.Given as goal

abbrev pub invariant-loop-pair : goal.invariant-loop-pair
invariant-loop-pair l = l.text.items ≡ join_with_byte 44 (map property_text (map property_of (take l.pair-index l.pairs)))
