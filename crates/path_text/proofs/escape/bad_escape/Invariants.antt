use Rattle.std.proofs.Common.{◌≡◌, ◌+◌, drop, option_map}
use Rattle.path_text.specs.Targets.{bad_escape}
use Rattle.path_text.proofs.escape.bad_escape.Given as goal

abbrev pub invariant-loop-at : goal.invariant-loop-at
invariant-loop-at l = option_map (λ k. k + l.at) (bad_escape (drop l.at l.text)) ≡ bad_escape l.text
