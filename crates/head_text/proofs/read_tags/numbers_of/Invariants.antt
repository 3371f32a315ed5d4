use Rattle.std.proofs.Common.{◌≡◌, map}
use Rattle.std.specs.List.{filter_map}
use Rattle.head_text.specs.ETags.{item_number}
use Rattle.head_text.proofs.read_tags.numbers_of.Given as goal

abbrev pub invariant-loop-item : goal.invariant-loop-item
invariant-loop-item l = l.numbers.items ≡ filter_map item_number (map (λ item. item.now) l.yielded)
