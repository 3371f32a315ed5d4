use Rattle.std.proofs.Common.{◌≡◌, length, rules}
use Rattle.http_front.proofs.TextLemmas.{AwaitsHead-empty}
use Rattle.http_front.proofs.reader.look.Goals as goal

pub returns-then-is_empty : goal.returns-then-is_empty
returns-then-is_empty c =
    let none : length c.args.bytes.now ≡ 0 = search rules in
    AwaitsHead-empty c.args.bytes.now none
