use Rattle.http_front.proofs.TextLemmas.{unique}
use Rattle.http_front.proofs.laws.requests_are_unique.Goals as goal

pub returns : goal.returns
returns c = unique
