use Rattle.std.proofs.Common.{◌≡◌, map, drop}
use Rattle.head_text.specs.Headers.{first_header, header_of}
use Rattle.head_text.proofs.header_list.first_header.Given as goal

abbrev pub invariant-loop-header : goal.invariant-loop-header
invariant-loop-header l =
    first_header l.name (map header_of (drop l.header-index l.headers)) ≡ first_header l.name (map header_of l.headers)
