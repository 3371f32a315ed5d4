use Rattle.std.proofs.Common.{refl}
use Rattle.file_data.proofs.OrderLemmas.{nothing_below, flush_here, flushed_here, flushed_here_dropping, flushed_here_extents}
use Rattle.file_data.proofs.laws.a_flush_at_the_length_only_drops.Goals as goal

pub returns-clause-nothing_below : goal.returns-clause-nothing_below
returns-clause-nothing_below c = λ f h. nothing_below f.committed f.staged h

pub returns-clause-allowed : goal.returns-clause-allowed
returns-clause-allowed c = flush_here

pub returns-clause-retaining : goal.returns-clause-retaining
returns-clause-retaining c = flushed_here

pub returns-clause-dropping : goal.returns-clause-dropping
returns-clause-dropping c = λ f h. (flushed_here_dropping f h, flushed_here_extents f h, refl)
