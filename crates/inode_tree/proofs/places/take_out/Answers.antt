use Rattle.std.proofs.Common.{◌≡◌, Some, sym, ap, ◌∙◌}
use Rattle.std.specs.FinMap.Entries.{where_key}
use Rattle.inode_tree.specs.Ascending.{differs}
use Rattle.inode_tree.proofs.PlaceLemmas.{found_at, free_at, in_order, kept_sorted}
use Rattle.inode_tree.proofs.places.take_out.Goals as goal

pub returns-in-Ok-clause-value : goal.returns-in-Ok-clause-value
returns-in-Ok-clause-value g c =
    let at = rw c.as_slice.ensures.value at c.in-Ok.ensures in
    let place = found_at g.K.Ord.cmp g.met.K.Ord.total c.args.key.now c.args.entries.now.items c.in-Ok.at c.remove.result (in_order _ c.requires) at.0 (at.1 c.remove.result) in
    ap (λ x. Some x.1) c.remove.ensures.value ∙ sym place.found

pub returns-in-Ok-clause-items : goal.returns-in-Ok-clause-items
returns-in-Ok-clause-items g c =
    let at = rw c.as_slice.ensures.value at c.in-Ok.ensures in
    let place = found_at g.K.Ord.cmp g.met.K.Ord.total c.args.key.now c.args.entries.now.items c.in-Ok.at c.remove.result (in_order _ c.requires) at.0 (at.1 c.remove.result) in
    c.remove.ensures.items ∙ sym place.removed

pub returns-in-Ok-clause-sorted : goal.returns-in-Ok-clause-sorted
returns-in-Ok-clause-sorted g c =
    let at = rw c.as_slice.ensures.value at c.in-Ok.ensures in
    let place = found_at g.K.Ord.cmp g.met.K.Ord.total c.args.key.now c.args.entries.now.items c.in-Ok.at c.remove.result (in_order _ c.requires) at.0 (at.1 c.remove.result) in
    let items : c.remove.new.self.items ≡ where_key g.K.Ord.cmp (differs g.K.Ord.cmp c.args.key.now) c.args.entries.now.items =
    c.remove.ensures.items ∙ sym place.removed in
    rw items (kept_sorted g.K.Ord.cmp g.met.K.Ord.total (differs g.K.Ord.cmp c.args.key.now) c.args.entries.now.items c.requires)

pub returns-in-Err-clause-value : goal.returns-in-Err-clause-value
returns-in-Err-clause-value g c =
    let at = rw c.as_slice.ensures.value at c.in-Err.ensures in
    let place = free_at g.K.Ord.cmp g.met.K.Ord.total c.args.key.now c.args.entries.now.items c.in-Err.field-0 at.0 at.1 in
    sym place.missing

pub returns-in-Err-clause-items : goal.returns-in-Err-clause-items
returns-in-Err-clause-items g c =
    let at = rw c.as_slice.ensures.value at c.in-Err.ensures in
    let place = free_at g.K.Ord.cmp g.met.K.Ord.total c.args.key.now c.args.entries.now.items c.in-Err.field-0 at.0 at.1 in
    sym place.kept
