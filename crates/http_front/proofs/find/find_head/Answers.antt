use Rattle.std.proofs.Common.{ap, Err}
use Rattle.http_front.proofs.FindLemmas.{error_found}
use Rattle.http_front.proofs.find.find_head.Goals as goal

pub returns-in-Err : goal.returns-in-Err
returns-in-Err c =
    rw c.fault_of.ensures (error_found c.args.bytes.now c.in-Err.error c.requires.some c.in-Err.ensures.invalid c.in-Err.ensures.no_room
    (λ same. c.in-Err.ensures.too_many (ap Err same)))
