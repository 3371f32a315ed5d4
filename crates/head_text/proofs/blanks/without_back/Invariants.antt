use Rattle.std.proofs.Common.{◌≡◌, ◌+◌, ◌≤◌, length, take}
use Rattle.std.specs.List.{suffix_len}
use Rattle.head_text.specs.ETags.{is_blank}
use Rattle.head_text.proofs.blanks.without_back.Given as goal

abbrev pub decreases-loop-end : goal.decreases-loop-end
decreases-loop-end l = l.end

abbrev pub invariant-loop-end : goal.invariant-loop-end
invariant-loop-end l = (l.end ≤ length l.text) × (l.end + suffix_len is_blank l.text ≡ length l.text + suffix_len is_blank (take l.end l.text))
