use Rattle.lease_state.proofs.IdLemmas.{spelled}
use Rattle.lease_state.proofs.lease_id.read_lease_id.Goals as goal

pub returns-clause-spelled : goal.returns-clause-spelled
returns-clause-spelled c = λ id. rw c.hyphenated_id.ensures (spelled c.args.text.now id)
