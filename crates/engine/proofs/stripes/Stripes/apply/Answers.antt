use Rattle.std.proofs.Common.{◌≡◌, List, sym, ◌∙◌, subst, arith, ap}
use Rattle.inode_tree.specs.Parts.{tree_of}
use Rattle.inode_tree.specs.Promises.{applied_all}
use Rattle.inode_tree.specs.Stands.{Stands}
use Rattle.inode_tree.specs.Stripes.{StripeRecord}
use Rattle.inode_tree.specs.Views.{HasDates}
use Rattle.parted_namespace.specs.Namespace.{parts_of}
use Rattle.engine.specs.Stripes.{AreStripes, LeaveOthers, applied_where, AreChanged}
use Rattle.engine.proofs.StripeLemmas.{put_back, long_stripes, applied_stripes, applied_parts}
use Rattle.engine.proofs.stripes.Stripes.apply.Goals as goal

pub apply_written-requires-clause-long : goal.apply_written-requires-clause-long
apply_written-requires-clause-long c = long_stripes _ c.self.inside.stripes.items c.as_mut_slice.ensures.value c.self.invariant

pub invariant_of-self : goal.invariant_of-self
invariant_of-self c =
    let view = c.self.view_is in
    let same : c.args.self.now ≡ c.self.inside.stripes.items = cc in
    subst AreStripes (sym (put_back c.self.inside.stripes.len c.apply_written.new.stripes _ (omega (arith, c.as_mut_slice.ensures.len, c.apply_written.ensures.long))))
    (applied_stripes c.args.written c.args.number c.args.changes.now c.self.inside.stripes.items c.apply_written.new.stripes c.self.invariant
    (subst (λ (xs : List StripeRecord). LeaveOthers c.args.written c.args.number c.args.changes.now (parts_of xs)) same c.requires.others)
    (subst (λ xs. AreChanged (applied_where c.args.written c.args.number c.args.changes.now) xs c.apply_written.new.stripes) c.as_mut_slice.ensures.value c.apply_written.ensures)
    (subst (λ (xs : List StripeRecord). Stands (applied_all c.args.number c.args.changes.now (parts_of xs)) (tree_of (applied_all c.args.number c.args.changes.now (parts_of xs)))) same c.requires.stands)
    (subst (λ (xs : List StripeRecord). HasDates (tree_of (applied_all c.args.number c.args.changes.now (parts_of xs)))) same c.requires.dates))

pub returns : goal.returns
returns c =
    let view = c.self.view_is in
    let same : c.self.inside.stripes.items ≡ c.args.self.now = cc in
    ap parts_of (put_back c.self.inside.stripes.len c.apply_written.new.stripes _ (omega (arith, c.as_mut_slice.ensures.len, c.apply_written.ensures.long)))
    ∙ applied_parts c.args.written c.args.number c.args.changes.now c.self.inside.stripes.items c.apply_written.new.stripes c.self.invariant
    (subst (λ (xs : List StripeRecord). LeaveOthers c.args.written c.args.number c.args.changes.now (parts_of xs)) (sym same) c.requires.others)
    (subst (λ xs. AreChanged (applied_where c.args.written c.args.number c.args.changes.now) xs c.apply_written.new.stripes) c.as_mut_slice.ensures.value c.apply_written.ensures)
    ∙ ap (λ (xs : List StripeRecord). applied_all c.args.number c.args.changes.now (parts_of xs)) same
