use Rattle.std.proofs.Common.{map, take}
use Rattle.httparse.specs.Spans.{header_bytes}
use Rattle.http_front.specs.Requests.{values_of}
use Rattle.http_front.specs.Framings.{ValuesAre}
use Rattle.http_front.proofs.framing.values_named.Given as goal

abbrev pub invariant-loop-span : goal.invariant-loop-span
invariant-loop-span l = ValuesAre l.found (values_of l.name (map (header_bytes l.bytes) (take l.span-index l.spans)))
