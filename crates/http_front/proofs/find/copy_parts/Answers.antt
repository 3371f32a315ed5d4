use Rattle.std.proofs.Common.{◌≡◌, rules}
use Rattle.std.specs.Prelude.{map, take}
use Rattle.httparse.specs.Spans.{span_bytes, header_bytes}
use Rattle.http_front.specs.Finds.{parts_at}
use Rattle.http_front.proofs.find.copy_parts.Goals as goal

pub returns : goal.returns
unfolding parts_at
returns c =
    let bytes = c.args.bytes.now in
    let head = c.args.head.now in
    let method : c.new.result ≡ span_bytes bytes head.method = search rules in
    let target : c.new-2.result ≡ span_bytes bytes head.path = search rules in
    let headers : c.in_ok-copy_headers.field-0 ≡ map (header_bytes bytes) (take head.headers c.args.spans.now) = search rules in
    λ i. record { method = method i; target = target i; minor = head.version; headers = headers i }
