use Rattle.std.proofs.Common.{◌≡◌, ◌+◌, ◌-◌, ◌≤◌, length, drop}
use Rattle.std.specs.List.{prefix_len}
use Rattle.head_text.specs.ETags.{is_blank}
use Rattle.head_text.proofs.blanks.without_front.Given as goal

abbrev pub decreases-loop-at : goal.decreases-loop-at
decreases-loop-at l = length l.text - l.at

abbrev pub invariant-loop-at : goal.invariant-loop-at
invariant-loop-at l = (l.at ≤ length l.text) × (prefix_len is_blank l.text ≡ l.at + prefix_len is_blank (drop l.at l.text))
