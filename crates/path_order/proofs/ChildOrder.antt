-- The children of a directory in path order: those behind a name, one by one.
use Rattle.std.proofs.Common.{◌≡◌, ◌⊎◌, inl, inr, ℕ, List, [], ◌∷◌, ◌++◌, Option, Some, None, is_some, sym, ap, subst, ◌∙◌}
use Rattle.std.proofs.lemmas.Bool.{false≢true}
use Rattle.std.specs.declared.cmp.Ordering.TheVariants.{Less, Greater}
use Rattle.namespace_model.specs.Trees.{Path, Tree, at, is_child, children}
use Rattle.namespace_model.proofs.Lookups.{among_keys, keys_among}
use Rattle.namespace_model.proofs.PageOrder.{before_itself, keys_ascend}
use Rattle.namespace_model.proofs.Prefixes.{child_name, name_child}
use Rattle.inode_tree.specs.FirstChild.{IsFirstChild, IsChildAbove}
use Rattle.inode_tree.specs.Inodes.{BareInode}
use Rattle.inode_tree.specs.Parts.{Parts}
use Rattle.inode_tree.specs.Stands.{Stands}
use Rattle.path_order.specs.Cursors.{Before, IsAt}
use Rattle.path_order.proofs.CursorLemmas.{next_name, first_name, no_name_behind, nothing_left, laid}
use Rattle.path_order.proofs.NextPath.{by_bytes, less_no_greater, front_first, names_tell, by_names, behind_name, IsNextName, next_below, next_of, none_of}
use Rattle.path_order.proofs.TokenLemmas.{all_behind}
use Rattle.path_order.specs.Children.{left_at}

-- at the beginning all of them
pub all_left : (t : Tree) (p : Path) → left_at t p None ≡ children t p
all_left t p = all_behind p (children t p) (λ q h.
    let name = child_name p q (keys_among t (is_child p) q h).0 in
    subst (λ r. Before p r) (sym name.1) (front_first p name.0 []))

behind_by : (p : Path) (n k : List ℕ) → Before (p ++ n ∷ []) (p ++ k ∷ []) → by_bytes n k ≡ Less
behind_by p n k before = elim (names_tell n k) [
  | inl less ↦ less
  | inr other ↦ elim other [
    | inl same ↦ absurd (before_itself (p ++ n ∷ []) (subst (λ j. Before (p ++ n ∷ []) (p ++ j ∷ [])) (sym same) before))
    | inr more ↦ absurd (less_no_greater (sym before ∙ by_names p n [] k [] Greater more))
  ]
]

next_child : (t : Tree) (p : Path) (n m : List ℕ) → IsNextName t p n m → left_at t p (Some n) ≡ (p ++ m ∷ []) ∷ left_at t p (Some m)
next_child t p n m next =
    next_of (p ++ n ∷ []) (p ++ m ∷ []) (children t p) (keys_ascend t (is_child p)) (among_keys t (is_child p) (p ++ m ∷ []) next.there (name_child p m)) (by_names p n [] m [] Less next.behind)
    (λ r h before.
    let key = keys_among t (is_child p) r h in
    let name = child_name p r key.0 in
    let later = behind_by p n name.0 (subst (λ q. Before (p ++ n ∷ []) q) name.1 before) in
    subst (λ q. (q ≡ p ++ m ∷ []) ⊎ Before (p ++ m ∷ []) q) (sym name.1) (behind_name p m name.0 [] (next.first name.0 later (ap (λ q. is_some (at t q)) (sym name.1) ∙ key.1))))

module _ (parts : Parts) (t : Tree) (stands : Stands parts t) (p : Path) (id : ℕ) (x : BareInode) (is : IsAt parts p id x) where
  -- the first one behind a name, and those behind it
  pub one_left : (last : Option (List ℕ)) (m : List ℕ) (c : ℕ) → IsFirstChild x last m c → left_at t p last ≡ (p ++ m ∷ []) ∷ left_at t p (Some m)
  one_left None m c child =
      let next = next_below t (laid parts t stands) p m (first_name parts t stands p id x m c is child) in
      next_of p (p ++ m ∷ []) (children t p) (keys_ascend t (is_child p)) (among_keys t (is_child p) (p ++ m ∷ []) next.there (name_child p m)) next.behind
      (λ r h before. next.first r (keys_among t (is_child p) r h).1 before)
  one_left (Some n) m c child = next_child t p n m (next_name parts t stands p id x n m c is child)

  -- or none is left
  pub none_left : (last : Option (List ℕ)) → IsChildAbove x last None → left_at t p last ≡ []
  none_left None none =
      none_of p (children t p) (λ r h before.
      let key = keys_among t (is_child p) r h in
      let name = child_name p r key.0 in
      nothing_left parts t stands p id x is none name.0 [] (ap (λ q. is_some (at t q)) (sym name.1) ∙ key.1) (subst (λ q. Before p q) name.1 before))
  none_left (Some n) none =
      none_of (p ++ n ∷ []) (children t p) (λ r h before.
      let key = keys_among t (is_child p) r h in
      let name = child_name p r key.0 in
      let later = behind_by p n name.0 (subst (λ q. Before (p ++ n ∷ []) q) name.1 before) in
      false≢true (sym (no_name_behind parts t stands p id x n is none name.0 later) ∙ ap (λ q. is_some (at t q)) (sym name.1) ∙ key.1))
