use Rattle.std.proofs.Common.{take, []}
use Rattle.service_workers.specs.Drafts.{AreKept}
use Rattle.service_workers.proofs.commit.stripes_to_keep.Given as goal

abbrev pub invariant-loop-read : goal.invariant-loop-read
invariant-loop-read l = AreKept (take l.read-index l.reads) [] l.plan

abbrev pub invariant-loop-write : goal.invariant-loop-write
invariant-loop-write l = AreKept l.reads (take l.write-index l.writes) l.plan
