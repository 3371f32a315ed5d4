use Rattle.lease_state.proofs.LawLemmas.{leased_since_acquire, unbroken_since_acquire}
use Rattle.lease_state.proofs.laws.an_acquired_lease_keeps_others_out.Goals as goal

pub returns-clause-leased : goal.returns-clause-leased
returns-clause-leased c = leased_since_acquire

pub returns-clause-leased_or_gone : goal.returns-clause-leased_or_gone
returns-clause-leased_or_gone c = unbroken_since_acquire
