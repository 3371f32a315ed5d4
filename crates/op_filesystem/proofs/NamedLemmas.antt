-- The filesystems of the account in path order: those behind a name, one by one.
use Rattle.std.proofs.Common.{◌≡◌, ◌⊎◌, inl, inr, ℕ, Bool, true, false, ◌&&◌, List, [], ◌∷◌, Option, Some, None, is_some, IsSome, refl, sym, ap, subst, ◌∙◌}
use Rattle.std.proofs.lemmas.Bool.{false≢true}
use Rattle.std.specs.declared.cmp.Ordering.{Ordering}
use Rattle.std.specs.declared.cmp.Ordering.TheVariants.{Less, Equal, Greater}
use Rattle.std.specs.Cmp.Lexicographic.{nat_list_cmp_total}
use Rattle.std.specs.Ordering.{is_lt, ordering_reverse}
use Rattle.namespace_model.specs.ListFilesystems.{filesystems, begins_with}
use Rattle.namespace_model.specs.Locality.{Among}
use Rattle.namespace_model.specs.Pages.{above}
use Rattle.namespace_model.specs.Trees.{Path, Tree, at, is_child}
use Rattle.namespace_model.proofs.Lookups.{among_keys, keys_among}
use Rattle.namespace_model.proofs.PageOrder.{before_itself, before_trans, keys_ascend}
use Rattle.namespace_model.proofs.Prefixes.{both, together, child_name, name_child}
use Rattle.inode_tree.specs.ChildLists.{name_cmp, is_above}
use Rattle.inode_tree.specs.FirstChild.{IsFirstChild, IsChildAbove}
use Rattle.inode_tree.specs.Inodes.{BareInode}
use Rattle.inode_tree.specs.Parts.{Parts, child_of}
use Rattle.inode_tree.specs.Stands.{Stands}
use Rattle.path_order.specs.Cursors.{Before, IsAt}
use Rattle.path_order.proofs.CursorLemmas.{is_there, names_lead, no_child_there}
use Rattle.path_order.proofs.NextPath.{less_no_greater, front_first, names_tell, by_names, behind_name, next_of, none_of}
use Rattle.path_order.proofs.TokenLemmas.{all_behind}
use Rattle.op_filesystem.specs.Listed.{begins, IsFirstNamed, IsNextNamed}

-- ---- names

less_is : (o : Ordering) → is_lt o ≡ true → o ≡ Less
less_is Less e = refl
less_is Equal e = absurd (false≢true e)
less_is Greater e = absurd (false≢true e)

-- the paths of one name stand as their names
pub before_by : (n k : List ℕ) → name_cmp n k ≡ Less → Before (n ∷ []) (k ∷ [])
before_by n k less = by_names [] n [] k [] Less less

by_before : (n k : List ℕ) → Before (n ∷ []) (k ∷ []) → name_cmp n k ≡ Less
by_before n k before = elim (names_tell n k) [
  | inl less ↦ less
  | inr other ↦ elim other [
    | inl same ↦ absurd (before_itself (n ∷ []) (subst (λ j. Before (n ∷ []) (j ∷ [])) (sym same) before))
    | inr more ↦ absurd (less_no_greater (sym before ∙ by_names [] n [] k [] Greater more))
  ]
]

-- what is above a name that is above another is above that one
above_trans : (from : Option (List ℕ)) (m k : List ℕ) → is_above from m ≡ true → is_above (Some m) k ≡ true → is_above from k ≡ true
above_trans None m k a b = refl
above_trans (Some n) m k a b =
    ap is_lt (by_before n k (before_trans (n ∷ []) (m ∷ []) (k ∷ []) (before_by n m (less_is (name_cmp n m) a)) (before_by m k (less_is (name_cmp m k) b))))

-- ---- the search for the next name

-- the names with the prefix that are above the first one are above the last one too, and what is above the last one is
-- above the first
pub record IsPassing (x : BareInode) (prefix : List ℕ) (from last : Option (List ℕ)) : Type 0 where
  pub passed : (k : List ℕ) → is_above from k ≡ true → begins prefix k ≡ true → IsSome (child_of x k) → is_above last k ≡ true
  pub later : (k : List ℕ) → is_above last k ≡ true → is_above from k ≡ true

pub none_passed : (x : BareInode) (prefix : List ℕ) (from : Option (List ℕ)) → IsPassing x prefix from from
none_passed x prefix from = record { passed = λ k a b c. a; later = λ k a. a }

module _ (x : BareInode) (prefix : List ℕ) (from last : Option (List ℕ)) (is : IsPassing x prefix from last) where
  pub one_passed : (m : List ℕ) (c : ℕ) → IsFirstChild x last m c → begins prefix m ≡ false → IsPassing x prefix from (Some m)
  one_passed m c child other = record {
    passed = λ k a b some. elim (names_tell m k) [
      | inl less ↦ ap is_lt less
      | inr not_less ↦ elim not_less [
        | inl same ↦ absurd (false≢true (sym other ∙ ap (begins prefix) same ∙ b))
        | inr more ↦ absurd (child.first k (is.passed k a b some) some (nat_list_cmp_total.antisymm k m ∙ ap ordering_reverse more))
      ]
    ];
    later = λ k a. above_trans from m k (is.later m child.above) a;
  }

  pub first_named : (m : List ℕ) (c : ℕ) → IsFirstChild x last m c → begins prefix m ≡ true → IsFirstNamed x prefix from m c
  first_named m c child named = record {
    leads = child.leads;
    above = is.later m child.above;
    named = named;
    first = λ k a b some less. child.first k (is.passed k a b some) some less;
  }

  pub none_named : IsChildAbove x last None → IsNextNamed x prefix from None
  none_named none k a b = by_child (child_of x k) refl
    where
      by_child : (o : Option ℕ) → child_of x k ≡ o → child_of x k ≡ None
      by_child None e = e
      by_child (Some i) e = none k (is.passed k a b (ap is_some e))

-- ---- the list

-- the place of the last name, and that of the account where there is none
abbrev pub reached_at : Option (List ℕ) → Path
reached_at None = []
reached_at (Some n) = n ∷ []

-- the filesystems behind it
abbrev pub left_at : Tree → List ℕ → Option (List ℕ) → List Path
left_at t prefix last = above (Some (reached_at last)) (filesystems t prefix)

abbrev test_of : List ℕ → Path → Bool
test_of prefix q = is_child [] q && begins_with prefix q

-- each of them has one name, which begins with the prefix
record IsNamed (t : Tree) (prefix : List ℕ) (q : Path) : Type 0 where
  name : List ℕ
  is_it : q ≡ name ∷ []
  there : is_some (at t (name ∷ [])) ≡ true
  named : begins prefix name ≡ true

one_named : (t : Tree) (prefix : List ℕ) (q : Path) → Among q (filesystems t prefix) → IsNamed t prefix q
one_named t prefix q h =
    let key = keys_among t (test_of prefix) q h in
    let tests = both (is_child [] q) (begins_with prefix q) key.0 in
    let name = child_name [] q tests.0 in
    record {
      name = name.0;
      is_it = name.1;
      there = ap (λ r. is_some (at t r)) (sym name.1) ∙ key.1;
      named = ap (begins_with prefix) (sym name.1) ∙ tests.1;
    }

-- at the beginning all of them
pub all_left : (t : Tree) (prefix : List ℕ) → left_at t prefix None ≡ filesystems t prefix
all_left t prefix = all_behind [] (filesystems t prefix) (λ q h. let one = one_named t prefix q h in subst (λ r. Before [] r) (sym one.is_it) (front_first [] one.name []))

above_before : (last : Option (List ℕ)) (m : List ℕ) → is_above last m ≡ true → Before (reached_at last) (m ∷ [])
above_before None m h = front_first [] m []
above_before (Some n) m h = before_by n m (less_is (name_cmp n m) h)

before_above : (last : Option (List ℕ)) (m : List ℕ) → Before (reached_at last) (m ∷ []) → is_above last m ≡ true
before_above None m h = refl
before_above (Some n) m h = ap is_lt (by_before n m h)

module _ (parts : Parts) (t : Tree) (stands : Stands parts t) (x : BareInode) (is : IsAt parts [] 0 x) (prefix : List ℕ) where
  child_some : (k : List ℕ) → is_some (at t (k ∷ [])) ≡ true → IsSome (child_of x k)
  child_some k there = by_child (child_of x k) refl
    where
      by_child : (o : Option ℕ) → child_of x k ≡ o → IsSome (child_of x k)
      by_child None e = absurd (false≢true (sym (no_child_there parts t stands [] 0 x is k e) ∙ there))
      by_child (Some c) e = ap is_some e

  -- the first one behind a name, and those behind it
  pub one_left : (last : Option (List ℕ)) (m : List ℕ) (c : ℕ) → IsFirstNamed x prefix last m c → left_at t prefix last ≡ (m ∷ []) ∷ left_at t prefix (Some m)
  one_left last m c child =
      next_of (reached_at last) (m ∷ []) (filesystems t prefix) (keys_ascend t (test_of prefix))
      (among_keys t (test_of prefix) (m ∷ []) (is_there parts t stands (m ∷ []) c (sym (names_lead parts t stands [] 0 x is m) ∙ child.leads)) (together (name_child [] m) child.named))
      (above_before last m child.above)
      (λ r h before.
      let one = one_named t prefix r h in
      let later = before_above last one.name (subst (λ q. Before (reached_at last) q) one.is_it before) in
      subst (λ q. (q ≡ m ∷ []) ⊎ Before (m ∷ []) q) (sym one.is_it) (behind_name [] m one.name [] (child.first one.name later one.named (child_some one.name one.there))))

  -- or none is left
  pub none_left : (last : Option (List ℕ)) → IsNextNamed x prefix last None → left_at t prefix last ≡ []
  none_left last none =
      none_of (reached_at last) (filesystems t prefix) (λ r h before.
      let one = one_named t prefix r h in
      let later = before_above last one.name (subst (λ q. Before (reached_at last) q) one.is_it before) in
      false≢true (sym (no_child_there parts t stands [] 0 x is one.name (none one.name later one.named)) ∙ one.there))
