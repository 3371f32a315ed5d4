use Rattle.std.proofs.Common.{◌≡◌, set, sym, ap, ◌∙◌}
use Rattle.std.specs.FinMap.{put}
use Rattle.inode_tree.proofs.PlaceLemmas.{found_at, free_at, in_order, put_sorted}
use Rattle.inode_tree.proofs.places.put.Goals as goal

pub returns-in-Ok-clause-items : goal.returns-in-Ok-clause-items
returns-in-Ok-clause-items g c =
    let at = rw c.as_slice.ensures.value at c.in-Ok.ensures in
    let place = found_at g.K.Ord.cmp g.met.K.Ord.total c.args.key c.args.entries.now.items c.in-Ok.at c.index_mut.result.now (in_order _ c.requires) at.0 (at.1 c.index_mut.result.now) in
    ap (λ x. set c.args.entries.now.items c.in-Ok.at (x.0, c.args.value)) c.index_mut.ensures.value ∙ sym (place.replaced c.args.value)

pub returns-in-Ok-clause-sorted : goal.returns-in-Ok-clause-sorted
returns-in-Ok-clause-sorted g c =
    let at = rw c.as_slice.ensures.value at c.in-Ok.ensures in
    let place = found_at g.K.Ord.cmp g.met.K.Ord.total c.args.key c.args.entries.now.items c.in-Ok.at c.index_mut.result.now (in_order _ c.requires) at.0 (at.1 c.index_mut.result.now) in
    let items : set c.args.entries.now.items c.in-Ok.at (c.index_mut.result.now.0, c.args.value) ≡ put g.K.Ord.cmp c.args.key c.args.value c.args.entries.now.items =
    ap (λ x. set c.args.entries.now.items c.in-Ok.at (x.0, c.args.value)) c.index_mut.ensures.value ∙ sym (place.replaced c.args.value) in
    rw items (put_sorted g.K.Ord.cmp g.met.K.Ord.total c.args.key c.args.value c.args.entries.now.items c.requires)

pub returns-in_ok-insert-in-Err-clause-items : goal.returns-in_ok-insert-in-Err-clause-items
returns-in_ok-insert-in-Err-clause-items g c =
    let at = rw c.as_slice.ensures.value at c.in-Err.ensures in
    let place = free_at g.K.Ord.cmp g.met.K.Ord.total c.args.key c.args.entries.now.items c.in-Err.at at.0 at.1 in
    c.in_ok-insert-in-Err.ensures.items ∙ sym (place.added c.args.value)

pub returns-in_ok-insert-in-Err-clause-sorted : goal.returns-in_ok-insert-in-Err-clause-sorted
returns-in_ok-insert-in-Err-clause-sorted g c =
    let at = rw c.as_slice.ensures.value at c.in-Err.ensures in
    let place = free_at g.K.Ord.cmp g.met.K.Ord.total c.args.key c.args.entries.now.items c.in-Err.at at.0 at.1 in
    let items : c.insert.new.self.items ≡ put g.K.Ord.cmp c.args.key c.args.value c.args.entries.now.items =
    c.in_ok-insert-in-Err.ensures.items ∙ sym (place.added c.args.value) in
    rw items (put_sorted g.K.Ord.cmp g.met.K.Ord.total c.args.key c.args.value c.args.entries.now.items c.requires)
