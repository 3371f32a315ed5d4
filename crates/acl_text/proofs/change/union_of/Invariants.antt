use Rattle.std.proofs.Common.{◌≡◌, take, fold, map, filter, bit_or}
use Rattle.acl_text.specs.Whos.{is_limited}
use Rattle.acl_text.proofs.change.union_of.Given as goal

abbrev pub invariant-loop-who : goal.invariant-loop-who
invariant-loop-who l = l.union ≡ fold bit_or 0 (map (λ e. e.1) (filter (λ e. is_limited e.0) (take l.who-index l.items)))
