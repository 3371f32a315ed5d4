use Rattle.std.proofs.Common.{◌≡◌, ℕ, suc, ◌+◌, ◌%◌, [], List, take, get_or, slice_set, subst, sym, arith}
use Rattle.std.proofs.Math.Seq.{take-suc}
use Rattle.inode_tree.specs.declared.id.NodeId.{NodeId}
use Rattle.lock_core.specs.declared.object.LockMode.TheVariants as mode
use Rattle.service_workers.specs.Drafts.{AreKept}
use Rattle.service_workers.proofs.KeepLemmas.{kept_none, read_more, write_more}
use Rattle.service_workers.proofs.commit.stripes_to_keep.Goals as goal

pub loop-read-init : goal.loop-read-init
loop-read-init c = subst (AreKept [] []) (sym c.none-plan.ensures) kept_none

pub loop-read-preserved : goal.loop-read-preserved
loop-read-preserved c =
    let next : suc c.loop-read.read-index ≡ c.loop-read.read-index + 1 = omega arith in
    subst (AreKept (take (c.loop-read.read-index + 1) c.args.reads.now) []) (sym c.set.ensures)
    (subst (λ (n : ℕ). AreKept (take n c.args.reads.now) [] (slice_set c.loop-read.plan ((get_or c.args.reads.now c.loop-read.read-index (record { 0 = 0 })).0 % 64) mode.Shared)) next
    (subst (λ (ids : List NodeId). AreKept ids [] (slice_set c.loop-read.plan ((get_or c.args.reads.now c.loop-read.read-index (record { 0 = 0 })).0 % 64) mode.Shared))
    (sym (take-suc c.args.reads.now c.loop-read.read-index (record { 0 = 0 }) c.loop-read-test.true))
    (read_more (take c.loop-read.read-index c.args.reads.now) (get_or c.args.reads.now c.loop-read.read-index (record { 0 = 0 })) c.loop-read.plan c.loop-read.invariant)))

pub loop-write-preserved : goal.loop-write-preserved
loop-write-preserved c =
    let next : suc c.loop-write.write-index ≡ c.loop-write.write-index + 1 = omega arith in
    subst (AreKept c.args.reads.now (take (c.loop-write.write-index + 1) c.args.writes.now)) (sym c.set-in-loop-write.ensures)
    (subst (λ (n : ℕ). AreKept c.args.reads.now (take n c.args.writes.now) (slice_set c.loop-write.plan ((get_or c.args.writes.now c.loop-write.write-index (record { 0 = 0 })).0 % 64) mode.Exclusive)) next
    (subst (λ (ids : List NodeId). AreKept c.args.reads.now ids (slice_set c.loop-write.plan ((get_or c.args.writes.now c.loop-write.write-index (record { 0 = 0 })).0 % 64) mode.Exclusive))
    (sym (take-suc c.args.writes.now c.loop-write.write-index (record { 0 = 0 }) c.loop-write-test.true))
    (write_more c.args.reads.now (take c.loop-write.write-index c.args.writes.now) (get_or c.args.writes.now c.loop-write.write-index (record { 0 = 0 })) c.loop-write.plan c.loop-write.invariant)))
