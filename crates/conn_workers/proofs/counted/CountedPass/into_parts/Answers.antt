use Rattle.commit_journal.specs.declared.limits.TheConstants.{JOURNAL_MOST}
use Rattle.conn_workers.proofs.DeskLemmas.{few_ok, few_refused, few_denied}
use Rattle.conn_workers.proofs.counted.CountedPass.into_parts.Goals as goal

pub returns-clause-ok : goal.returns-clause-ok
returns-clause-ok g c = few_ok c.self.inside.pass c.self.inside.tally JOURNAL_MOST c.self.invariant.tally_is c.number-few.ensures.seen

pub returns-clause-refused : goal.returns-clause-refused
returns-clause-refused g c = few_refused c.self.inside.pass c.self.inside.tally JOURNAL_MOST c.self.invariant.tally_is c.number-few.ensures.seen

pub returns-clause-denied : goal.returns-clause-denied
returns-clause-denied g c = few_denied c.self.inside.pass c.self.inside.tally JOURNAL_MOST c.self.invariant.tally_is c.number-few.ensures.seen
