use Rattle.std.proofs.Common.{rules}
use Rattle.http_front.specs.Reads.{AwaitsHead}
use Rattle.http_front.specs.Steps.{EndsWith}
use Rattle.http_front.proofs.ReadLemmas.{Awaits-end}
use Rattle.http_front.proofs.reader.meet_head.Goals as goal

pub returns-in-Ok-false-clause-awaits : goal.returns-in-Ok-false-clause-awaits
returns-in-Ok-false-clause-awaits g c =
    let awaits : AwaitsHead c.reading.window = search rules in
    let ends : EndsWith c.fill.new.self c.at_end.result = search rules in
    Awaits-end _ _ _ c.args.window.now c.reading.window c.fill.new.self _ c.in-Ok-false.field-0 c.at_end.result c.reading.invariant.read
    c.in-Ok-false.field-0-test c.in-Ok-false.ensures.fills awaits ends
