use Rattle.http_front.proofs.FaultLemmas.{faultless}
use Rattle.http_front.proofs.laws.complete_requests_meet_no_fault.Goals as goal

pub returns : goal.returns
returns c = faultless
