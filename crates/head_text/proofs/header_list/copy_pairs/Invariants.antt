use Rattle.std.proofs.Common.{◌≡◌, map, take}
use Rattle.head_text.specs.Headers.{header_of}
use Rattle.head_text.proofs.header_list.copy_pairs.Given as goal

abbrev pub invariant-loop-pair : goal.invariant-loop-pair
invariant-loop-pair l = map header_of l.copied.items ≡ map header_of (take l.pair-index l.pairs)
