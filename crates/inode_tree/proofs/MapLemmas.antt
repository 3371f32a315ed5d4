-- The finite maps of edited lists of entries.
use Rattle.std.proofs.Common.{◌≡◌, ℕ, Bool, true, false, cond, not, List, None, Some, refl, sym, ap, ◌∙◌}
use Rattle.std.specs.declared.cmp.Ordering.{Ordering}
use Rattle.std.specs.Ordering.{is_eq, eq_by_cmp}
use Rattle.std.specs.Cmp.{IsTotalOrder, alike_right, eq_by_cmp_equiv}
use Rattle.std.specs.Cmp.Lexicographic.{nat_list_cmp_total}
use Rattle.std.specs.FinMap as fin
use Rattle.std.specs.FinMap.{IsAntisymmetric, slice_cmp-IsAntisymmetric, nat_cmp-IsAntisymmetric, find, put}
use Rattle.std.specs.FinMap.Entries.{where_key, find-put, find-where_key}
use Rattle.inode_tree.specs.Ascending.{differs}
use Rattle.inode_tree.specs.ChildLists.{name_cmp}
use Rattle.inode_tree.specs.Inodes.{directory}
use Rattle.inode_tree.specs.Changes.{linked, unlinked}

pub name_cmp-IsAntisymmetric : IsAntisymmetric name_cmp
name_cmp-IsAntisymmetric = slice_cmp-IsAntisymmetric nat_cmp-IsAntisymmetric

turned : {A : Type 0} (b : Bool) (x y : A) → cond (not b) x y ≡ cond b y x
turned true x y = refl
turned false x y = refl

module _ {K X : Type 0} (R : K → K → Ordering) (o : IsTotalOrder R) where
  -- what is found once a key was taken out
  pub find-without : (k q : K) (es : List (K × X)) → find R q (where_key R (differs R k) es) ≡ cond (eq_by_cmp R q k) None (find R q es)
  find-without k q es =
      find-where_key R (differs R k) q (λ x t. ap (λ r. not (is_eq r)) (sym (alike_right o q x k t))) es
      ∙ turned (eq_by_cmp R k q) (find R q es) None ∙ ap (λ b. cond b None (find R q es)) ((eq_by_cmp_equiv o).symm k q)

  module _ (same : IsAntisymmetric R) where
    pub map-put : (k : K) (v : X) (es : List (K × X)) → fin.from_entries {R = R} (put R k v es) ≡ fin.insert (fin.from_entries es) k v
    map-put k v es =
        fin.same_map o same _ _ (λ q. fin.get-from_entries o (put R k v es) q ∙ find-put R o q k v es
        ∙ sym (fin.get-insert o (fin.from_entries es) k v q ∙ ap (cond (eq_by_cmp R q k) (Some v)) (fin.get-from_entries o es q)))

    pub map-without : (k : K) (es : List (K × X)) → fin.from_entries {R = R} (where_key R (differs R k) es) ≡ fin.remove (fin.from_entries es) k
    map-without k es =
        fin.same_map o same _ _ (λ q. fin.get-from_entries o (where_key R (differs R k) es) q ∙ find-without k q es
        ∙ sym (fin.get-remove o (fin.from_entries es) k q ∙ ap (cond (eq_by_cmp R q k) None) (fin.get-from_entries o es q)))

pub linked_is : (name : List ℕ) (child : ℕ) (old new : List (List ℕ × ℕ)) → new ≡ put name_cmp name child old
    → directory (fin.from_entries new) ≡ linked name child (directory (fin.from_entries old))
linked_is name child old new e = ap directory (ap fin.from_entries e ∙ map-put name_cmp nat_list_cmp_total name_cmp-IsAntisymmetric name child old)

pub unlinked_is : (name : List ℕ) (old new : List (List ℕ × ℕ)) → new ≡ where_key name_cmp (differs name_cmp name) old
    → directory (fin.from_entries new) ≡ unlinked name (directory (fin.from_entries old))
unlinked_is name old new e = ap directory (ap fin.from_entries e ∙ map-without name_cmp nat_list_cmp_total name_cmp-IsAntisymmetric name old)
