use Rattle.std.proofs.Common.{◌≡◌, ℕ, List, map, take}
use Rattle.httparse.specs.Spans.{header_bytes}
use Rattle.http_front.proofs.find.copy_headers.Given as goal

abbrev pub invariant-loop-span : goal.invariant-loop-span
invariant-loop-span l =
    map {B = List ℕ × List ℕ} (λ p. (p.0.items, p.1.items)) l.pairs.items ≡ map (header_bytes l.bytes) (take l.span-index l.spans)
