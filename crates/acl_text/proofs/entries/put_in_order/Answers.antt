use Rattle.std.proofs.Common.{length, set, sym, ap, ◌∙◌, arith}
use Rattle.acl_text.proofs.EntryLemmas.{put-found, put-free}
use Rattle.acl_text.proofs.entries.put_in_order.Goals as goal

pub index_mut-requires : goal.index_mut-requires
index_mut-requires c =
    let items = ap length c.as_slice.ensures.value in
    let p = put-found c.args.who c.args.perm c.as_slice.result.now c.in-Ok.at c.place.result (c.args.who, c.args.perm) c.place.ensures c.in-Ok.is in
    omega (arith, p.0)

pub insert-requires : goal.insert-requires
insert-requires c =
    let p = put-free c.args.who c.args.perm c.as_slice.result.now c.in-Err.at c.place.result c.place.ensures c.in-Err.is in
    omega (arith, p.0)

pub returns-in-Ok : goal.returns-in-Ok
returns-in-Ok c =
    let p = rw c.as_slice.ensures.value at (put-found c.args.who c.args.perm c.as_slice.result.now c.in-Ok.at c.place.result c.index_mut.result.now c.place.ensures c.in-Ok.is) in
    ap (λ x. set c.args.items.now.items c.in-Ok.at (x.0, c.args.perm)) c.index_mut.ensures.value ∙ sym p.1

pub returns-in_ok-insert-in-Err : goal.returns-in_ok-insert-in-Err
returns-in_ok-insert-in-Err c =
    let p = rw c.as_slice.ensures.value at (put-free c.args.who c.args.perm c.as_slice.result.now c.in-Err.at c.place.result c.place.ensures c.in-Err.is) in
    c.in_ok-insert-in-Err.ensures.items ∙ sym p.1
