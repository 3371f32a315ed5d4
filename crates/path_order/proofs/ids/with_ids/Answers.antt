use Rattle.std.proofs.Common.{◌≡◌, ◌<◌, length, sym, append-nil, arith}
use Rattle.inode_tree.specs.Promises.{numbers_of}
use Rattle.path_order.proofs.IdLemmas.{way_next, way_all}
use Rattle.path_order.proofs.ids.with_ids.Goals as goal

pub loop-seen-init : goal.loop-seen-init
loop-seen-init c = sym (append-nil (numbers_of c.args.ids.items))

pub loop-seen-preserved : goal.loop-seen-preserved
loop-seen-preserved c =
    way_next (numbers_of c.args.ids.items) c.args.nodes.now c.loop-seen.seen-index c.seen-item.result c.loop-seen.all.items _
    (let a = c.loop-seen-test.true in let b = c.loop-seen.auto.seen-index-end in let h : c.loop-seen.seen-index < length c.args.nodes.now = omega arith in h) c.seen-item.is c.loop-seen.invariant c.in_ok-push.ensures.items

pub returns : goal.returns
returns c =
    way_all (numbers_of c.args.ids.items) c.args.nodes.now c.loop-seen.seen-index c.loop-seen.all.items
    (let a = c.loop-seen-test.false in let b = c.loop-seen.auto.seen-index-end in let h : c.loop-seen.seen-index ≡ length c.args.nodes.now = omega arith in h) c.loop-seen.invariant
