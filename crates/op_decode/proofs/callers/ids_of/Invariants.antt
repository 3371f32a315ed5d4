use Rattle.std.proofs.Common.{◌≡◌, drop, map}
use Rattle.op_decode.specs.Callers.{ids_of}
use Rattle.op_decode.proofs.CallerLemmas.{with_front}
use Rattle.op_decode.proofs.callers.ids_of.Given as goal

abbrev pub invariant-loop-item : goal.invariant-loop-item
invariant-loop-item l = with_front l.ids.items (ids_of (drop l.item-index (map (λ t. t.now) l.items))) ≡ ids_of (map (λ t. t.now) l.items)
