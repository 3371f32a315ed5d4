use Rattle.std.proofs.Common.{map, take, rules}
use Rattle.httparse.specs.Spans.{header_bytes}
use Rattle.http_front.specs.Framings.{IsCoded, HasBadLength, HasLargeBody}
use Rattle.http_front.proofs.FindLemmas.{coded_found, length_found, large_found}
use Rattle.http_front.proofs.find.judge_head.Goals as goal

pub returns-in-Coded : goal.returns-in-Coded
returns-in-Coded c =
    let coded : IsCoded (map (header_bytes c.args.bytes.now) (take c.args.head.now.headers c.args.spans.now)) = search rules in
    coded_found _ _ c.args.head.now c.requires.within c.requires.is_head c.requires.short c.requires.few coded

pub returns-in-BadLength : goal.returns-in-BadLength
returns-in-BadLength c =
    let wrong : HasBadLength (map (header_bytes c.args.bytes.now) (take c.args.head.now.headers c.args.spans.now)) = search rules in
    length_found _ _ c.args.head.now c.requires.within c.requires.is_head c.requires.short c.requires.few wrong

pub returns-in-TooLarge : goal.returns-in-TooLarge
returns-in-TooLarge c =
    let large : HasLargeBody (map (header_bytes c.args.bytes.now) (take c.args.head.now.headers c.args.spans.now)) = search rules in
    large_found _ _ c.args.head.now c.requires.within c.requires.is_head c.requires.short c.requires.few large
