use Rattle.std.proofs.Common.{◌≡◌, ◌<◌, length, sym, append-nil, arith}
use Rattle.inode_tree.specs.Promises.{numbers_of}
use Rattle.path_listing.proofs.IdLemmas.{rows_next, rows_all}
use Rattle.path_listing.proofs.eval.with_rows.Goals as goal

pub loop-row-init : goal.loop-row-init
loop-row-init c = sym (append-nil (numbers_of c.args.reads.items))

pub loop-row-preserved : goal.loop-row-preserved
loop-row-preserved c =
    rows_next (numbers_of c.args.reads.items) c.args.rows.now c.loop-row.row-index c.row-item.result c.loop-row.ids.items _
    (let a = c.loop-row-test.true in let b = c.loop-row.auto.row-index-end in let h : c.loop-row.row-index < length c.args.rows.now = omega arith in h) c.row-item.is c.loop-row.invariant c.in_ok-push.ensures.items

pub returns : goal.returns
returns c =
    rows_all (numbers_of c.args.reads.items) c.args.rows.now c.loop-row.row-index c.loop-row.ids.items
    (let a = c.loop-row-test.false in let b = c.loop-row.auto.row-index-end in let h : c.loop-row.row-index ≡ length c.args.rows.now = omega arith in h) c.loop-row.invariant
