-- What the sequential engine keeps at the start.
use Rattle.std.proofs.Common.{◌≡◌, ℕ, [], Option, Some, None, is_some, refl, ap, sym, subst, ◌∙◌, arith}
use Rattle.namespace_model.specs.Step.{tree_after}
use Rattle.namespace_model.specs.Trees.{opening_tree}
use Rattle.namespace_model.proofs.Runs.{tree_after-nil}
use Rattle.inode_tree.specs.Inodes.{BareInode}
use Rattle.inode_tree.specs.Parts.{Parts, inode_at}
use Rattle.inode_tree.specs.Rows.{fresh_id}
use Rattle.inode_tree.specs.Stands.{Stands}
use Rattle.inode_tree.specs.Views.{HasDates}
use Rattle.parted_namespace.specs.Opening.{AreOpening}
use Rattle.parted_namespace.proofs.OpeningTree.{alone, opening_dates, opening_stands}
use Rattle.engine.specs.Solos.{SoloView, parts_in, made_from, made_by, IsKept}

-- each id of a row is free
opening_free : (parts : Parts) → AreOpening parts → (k : ℕ) → inode_at parts (fresh_id 0 k) ≡ None
opening_free parts is k = by_inode (inode_at parts (fresh_id 0 k)) refl
  where
    by_inode : (o : Option BareInode) → inode_at parts (fresh_id 0 k) ≡ o → o ≡ None
    by_inode None e = refl
    by_inode (Some x) e = absurd (let z = alone parts is (fresh_id 0 k) (ap is_some e) in omega arith)

-- what is kept at the start
pub kept_at_start : (s : SoloView) → s.entries ≡ [] → AreOpening (parts_in s) → s.used ≡ 0 → IsKept s
unfolding made_from made_by
kept_at_start s none opening unused = record {
  stands = subst (Stands (parts_in s)) (sym tree_is) (opening_stands (parts_in s) opening);
  dates = subst HasDates (sym tree_is) opening_dates;
  made = unused ∙ sym (ap made_by none);
  few = omega (arith, unused);
  free = λ k h. opening_free (parts_in s) opening k;
}
  where
    tree_is : tree_after s.entries ≡ opening_tree
    tree_is = ap tree_after none ∙ tree_after-nil
