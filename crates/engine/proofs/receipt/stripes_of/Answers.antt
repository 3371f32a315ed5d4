use Rattle.std.proofs.Common.{◌≡◌, ℕ, suc, ◌+◌, ◌*◌, ◌%◌, ◌^◌, List, take, get_or, bit_or, refl, subst, sym, arith}
use Rattle.std.proofs.Math.Seq.{take-suc}
use Rattle.inode_tree.specs.declared.id.NodeId.{NodeId}
use Rattle.engine.proofs.ReceiptLemmas.{AreStripesOf, one_more}
use Rattle.engine.proofs.receipt.stripes_of.Goals as goal

pub loop-id-preserved : goal.loop-id-preserved
loop-id-preserved c =
    let next : suc c.loop-id.id-index ≡ c.loop-id.id-index + 1 = omega arith in
    subst (λ (n : ℕ). AreStripesOf (take n c.args.ids.now) (bit_or c.loop-id.bits (1 * 2 ^ ((get_or c.args.ids.now c.loop-id.id-index (record { 0 = 0 })).0 % 64) % 2 ^ 64))) next
    (subst (λ (ids : List NodeId). AreStripesOf ids (bit_or c.loop-id.bits (1 * 2 ^ ((get_or c.args.ids.now c.loop-id.id-index (record { 0 = 0 })).0 % 64) % 2 ^ 64)))
    (sym (take-suc c.args.ids.now c.loop-id.id-index (record { 0 = 0 }) c.loop-id-test.true))
    (one_more (take c.loop-id.id-index c.args.ids.now) (get_or c.args.ids.now c.loop-id.id-index (record { 0 = 0 })) c.loop-id.bits _ c.loop-id.invariant refl))
