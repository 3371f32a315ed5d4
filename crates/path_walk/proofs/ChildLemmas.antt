-- Whether a node has children, by its names.
use Rattle.std.proofs.Common.{◌≡◌, ◌≢◌, ℕ, suc, ◌==◌, Bool, true, false, cond, not, List, [], ◌∷◌, length, Some, None, is_some, refl, ap, sym, ◌∙◌, arith}
use Rattle.std.proofs.lemmas.Bool.{false≢true}
use Rattle.std.specs.Prelude.{IsTrue, ◌↔◌}
use Rattle.std.specs.Cmp.Lexicographic.{nat_list_cmp_total}
use Rattle.std.specs.FinMap as fin
use Rattle.std.specs.FinMap.{find}
use Rattle.file_data.specs.FileRecord.{FileRecord}
use Rattle.inode_tree.specs.declared.inode.Content.{Content}
use Rattle.inode_tree.specs.declared.inode.Content.TheVariants as content
use Rattle.inode_tree.specs.declared.inode.Inode.{Inode}
use Rattle.inode_tree.specs.ChildLists.{ChildRecord, name_cmp}
use Rattle.inode_tree.specs.Inodes.{BareInode, bare, bare_content, numbered, links_in}
use Rattle.inode_tree.specs.Parts.{child_of}
use Rattle.inode_tree.proofs.LinkLemmas.{key_same}
use Rattle.inode_tree.proofs.MapLemmas.{name_cmp-IsAntisymmetric}
use Rattle.inode_tree.proofs.TurnLemmas.{number_differs}
use Rattle.path_walk.specs.Children.{has_children}

-- ---- by the names that lead somewhere

-- a node without children has no child of any name
pub no_child : (x : BareInode) → has_children x ≡ false → (n : List ℕ) → child_of x n ≡ None
no_child x h n = by_entries (fin.entries (links_in x.content)) refl
  where
    by_entries : (es : List (List ℕ × ℕ)) → fin.entries (links_in x.content) ≡ es → child_of x n ≡ None
    by_entries [] e = fin.get-entries (links_in x.content) n ∙ ap (find name_cmp n) e
    by_entries (l ∷ es) e = absurd (false≢true (sym h ∙ ap (λ k. not (k == 0)) (fin.len-entries (links_in x.content) ∙ ap (λ (ls : List (List ℕ × ℕ)). length ls) e) ∙ ap not (number_differs (suc (length es)) 0 (λ z. omega arith))))

-- one with children has one
pub a_child : (x : BareInode) → has_children x ≡ true → (n : List ℕ) × ((i : ℕ) × (child_of x n ≡ Some i))
a_child x h = by_entries (fin.entries (links_in x.content)) refl
  where
    by_entries : (es : List (List ℕ × ℕ)) → fin.entries (links_in x.content) ≡ es → (n : List ℕ) × ((i : ℕ) × (child_of x n ≡ Some i))
    by_entries [] e = absurd (false≢true (sym (ap (λ k. not (k == 0)) (fin.len-entries (links_in x.content) ∙ ap (λ (ls : List (List ℕ × ℕ)). length ls) e)) ∙ h))
    by_entries (l ∷ es) e = (
      l.0,
      (
        l.1,
        fin.get-entries (links_in x.content) l.0 ∙ ap (find name_cmp l.0) e
            ∙ ap (λ b. cond b (Some l.1) (find name_cmp l.0 es)) (key_same name_cmp nat_list_cmp_total name_cmp-IsAntisymmetric l.0),
      ),
    )

-- ---- by the content of an inode

is_false : (b : Bool) → (IsTrue b → ⊥) → b ≡ false
is_false true h = absurd (h refl)
is_false false h = refl

-- a map of a list has nothing where the list has nothing
no_entries : (links : List (List ℕ × ℕ)) (b : Bool) → (IsTrue b ↔ (links ≡ [])) → b ≡ (fin.len (fin.from_entries {R = name_cmp} links) == 0)
no_entries [] b h = h.1 refl ∙ sym (ap (λ k. k == 0) (fin.len-empty name_cmp ℕ))
no_entries (l ∷ ls) b h = is_false b (λ k. more (h.0 k)) ∙ sym (number_differs (fin.len (fin.from_entries {R = name_cmp} (l ∷ ls))) 0 some)
  where
    more : l ∷ ls ≡ [] → ⊥
    more e = let k : length (l ∷ ls) ≡ 0 = ap (λ (r : List (List ℕ × ℕ)). length r) e in let s : length (l ∷ ls) ≡ suc (length ls) = refl in omega arith

    some : fin.len (fin.from_entries {R = name_cmp} (l ∷ ls)) ≢ 0
    some none =
        false≢true (ap is_some (sym (fin.get-empty name_cmp l.0) ∙ ap (λ k. fin.get k l.0) (sym (fin.empty_of_len (fin.from_entries {R = name_cmp} (l ∷ ls)) none))
        ∙ fin.get-from_entries nat_list_cmp_total (l ∷ ls) l.0 ∙ ap (λ t. cond t (Some l.1) (find name_cmp l.0 ls)) (key_same name_cmp nat_list_cmp_total name_cmp-IsAntisymmetric l.0)))

-- whether a directory is empty
pub directory_has : (x : BareInode) (i : Inode) (children : ChildRecord) (k : ℕ) (b : Bool) → numbered k (bare i) ≡ x → i.content ≡ content.Directory children → (IsTrue b ↔ (children.links ≡ [])) → not b ≡ has_children x
directory_has x i children k b e f h =
    ap not (no_entries children.links b h) ∙ sym (ap (λ (y : BareInode). has_children y) (sym e) ∙ ap (λ (d : Content). not (fin.len (links_in (bare_content d)) == 0)) f)

-- a file has none
pub file_has_none : (x : BareInode) (i : Inode) (bytes : FileRecord) (k : ℕ) → numbered k (bare i) ≡ x → i.content ≡ content.File bytes → false ≡ has_children x
file_has_none x i bytes k e f =
    sym (ap (λ j. not (j == 0)) (fin.len-empty name_cmp ℕ)) ∙ sym (ap (λ (y : BareInode). has_children y) (sym e) ∙ ap (λ (d : Content). not (fin.len (links_in (bare_content d)) == 0)) f)
