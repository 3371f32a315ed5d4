-- The first child of a node behind a name, by the links of a directory.
use Rattle.std.proofs.Common.{◌≡◌, ℕ, Bool, true, false, cond, T, List, [], ◌∷◌, Option, Some, None, is_some, IsSome, refl, sym, ap, subst, ◌∙◌}
use Rattle.std.proofs.lemmas.Bool.{false≢true}
use Rattle.std.proofs.lemmas.Option.{same_Some}
use Rattle.std.specs.Cmp.Lexicographic.{nat_list_cmp_total}
use Rattle.std.specs.FinMap.{find, IsAntisymmetric}
use Rattle.std.specs.List.{filter}
use Rattle.std.specs.declared.cmp.Ordering.{Ordering}
use Rattle.std.specs.declared.cmp.Ordering.TheVariants.{Less}
use Rattle.std.specs.Ordering.{is_eq, is_lt, ordering_reverse, eq_by_cmp}
use Rattle.std.specs.Prelude.{slice_get}
use Rattle.file_data.specs.FileRecord.{FileRecord}
use Rattle.inode_tree.specs.declared.inode.Content.TheVariants as content
use Rattle.inode_tree.specs.declared.inode.Inode.{Inode}
use Rattle.inode_tree.specs.ChildLists.{ChildRecord, name_cmp, AscendsByName, is_above, first_above}
use Rattle.inode_tree.specs.Inodes.{BareInode, bare, numbered}
use Rattle.inode_tree.specs.Parts.{child_of}
use Rattle.inode_tree.proofs.MapLemmas.{name_cmp-IsAntisymmetric}
use Rattle.inode_tree.proofs.NodeChildren.{child_in, no_child_in}
use Rattle.inode_tree.specs.FirstChild.{IsFirstChild, IsChildAbove}
use Rattle.inode_tree.proofs.LinkLists.{next_over, next_all, ties, less}

abbrev Links : Type 0
Links = List (List ℕ × ℕ)

-- ---- entries that pass a test of their keys

module _ {K X : Type 0} (R : K → K → Ordering) (same : IsAntisymmetric R) (test : K → Bool) where
  abbrev pub kept : List (K × X) → List (K × X)
  kept es = filter (λ (e : K × X). test e.0) es

  pub kept_found : (k : K) (v : X) (es : List (K × X)) → test k ≡ true → find R k es ≡ Some v → find R k (kept es) ≡ Some v
  kept_found k v [] h e = absurd (false≢true (ap is_some e))
  kept_found k v (x ∷ es) h e = by_key (eq_by_cmp R k x.0) refl e (kept_found k v es h)
    where
      by_test : (b : Bool) → eq_by_cmp R k x.0 ≡ false → find R k (kept es) ≡ Some v → find R k (cond b (x ∷ kept es) (kept es)) ≡ Some v
      by_test true other more = ap (λ b. cond b (Some x.1) (find R k (kept es))) other ∙ more
      by_test false other more = more

      by_key : (b : Bool) → eq_by_cmp R k x.0 ≡ b → cond b (Some x.1) (find R k es) ≡ Some v → (find R k es ≡ Some v → find R k (kept es) ≡ Some v) → find R k (cond (test x.0) (x ∷ kept es) (kept es)) ≡ Some v
      by_key true t f more =
          let key : k ≡ x.0 = same k x.0 (ties (R k x.0) t) in
          ap (λ b. find R k (cond b (x ∷ kept es) (kept es))) (ap test (sym key) ∙ h) ∙ ap (λ b. cond b (Some x.1) (find R k (kept es))) t ∙ f
      by_key false t f more = by_test (test x.0) t (more f)

  pub found_passes : (k : K) (v : X) (es : List (K × X)) → find R k (kept es) ≡ Some v → test k ≡ true
  found_passes k v [] e = absurd (false≢true (ap is_some e))
  found_passes k v (x ∷ es) e = by_test (test x.0) refl e (found_passes k v es)
    where
      by_key : (b : Bool) → eq_by_cmp R k x.0 ≡ b → test x.0 ≡ true → cond b (Some x.1) (find R k (kept es)) ≡ Some v → (find R k (kept es) ≡ Some v → test k ≡ true) → test k ≡ true
      by_key true t h f more = ap test (same k x.0 (ties (R k x.0) t)) ∙ h
      by_key false t h f more = more f

      by_test : (b : Bool) → test x.0 ≡ b → find R k (cond b (x ∷ kept es) (kept es)) ≡ Some v → (find R k (kept es) ≡ Some v → test k ≡ true) → test k ≡ true
      by_test true h f more = by_key (eq_by_cmp R k x.0) refl h f more
      by_test false h f more = more f

  pub first_passes : (y : K × X) (ys es : List (K × X)) → kept es ≡ y ∷ ys → test y.0 ≡ true
  first_passes y ys [] e = absurd (false≢true (ap is_any e))
    where
      is_any : List (K × X) → Bool
      is_any [] = false
      is_any (x ∷ xs) = true
  first_passes y ys (x ∷ es) e = by_test (test x.0) refl e (first_passes y ys es)
    where
      head : List (K × X) → K × X
      head [] = y
      head (z ∷ zs) = z

      by_test : (b : Bool) → test x.0 ≡ b → cond b (x ∷ kept es) (kept es) ≡ y ∷ ys → (kept es ≡ y ∷ ys → test y.0 ≡ true) → test y.0 ≡ true
      by_test true h f more = ap (λ (z : K × X). test z.0) (sym (ap head f)) ∙ h
      by_test false h f more = more f

-- ---- links above a name

abbrev left_of : Option (List ℕ) → Links → Links
left_of last links = filter (λ (link : List ℕ × ℕ). is_above last link.0) links

first_is : (xs : Links) (x : List ℕ × ℕ) → slice_get xs 0 ≡ Some x → (rest : Links) × (xs ≡ x ∷ rest)
first_is [] x e = absurd (false≢true (ap is_some e))
first_is (y ∷ ys) x e = (ys, ap (λ z. z ∷ ys) (same_Some y x e))

none_is : (xs : Links) → slice_get xs 0 ≡ None → xs ≡ []
none_is [] e = refl
none_is (y ∷ ys) e = absurd (false≢true (sym (ap is_some e)))

all_left : (links : Links) → left_of None links ≡ links
all_left [] = refl
all_left (x ∷ links) = ap (λ l. x ∷ l) (all_left links)

-- of the links above a name the first one is found, and the others are those above it
first_left : (last : Option (List ℕ)) (links rest : Links) (name : List ℕ) (i : ℕ) → AscendsByName links → left_of last links ≡ (name, i) ∷ rest
    → (left_of (Some name) links ≡ rest) × (find name_cmp name links ≡ Some i)
first_left None links rest name i sorted h = next_all name_cmp nat_list_cmp_total name i rest links (subst T (sym sorted) tt) (sym (all_left links) ∙ h)
first_left (Some other) links rest name i sorted h = next_over name_cmp nat_list_cmp_total other name i rest links (subst T (sym sorted) tt) h

both_less : (m k : List ℕ) → name_cmp k m ≡ Less → name_cmp m k ≡ Less → ⊥
both_less m k e f = false≢true (ap is_lt (sym (ap ordering_reverse e) ∙ sym (nat_list_cmp_total.antisymm m k) ∙ f))

least : (last : Option (List ℕ)) (links : Links) (name k : List ℕ) (i v : ℕ) → AscendsByName links → first_above last links ≡ Some (name, i) → is_above last k ≡ true → find name_cmp k links ≡ Some v → name_cmp k name ≡ Less → ⊥
least last links name k i v sorted e above found before =
    let f = first_is (left_of last links) (name, i) e in
    let more = first_left last links f.0 name i sorted f.1 in
    let here : find name_cmp k ((name, i) ∷ f.0) ≡ Some v = sym (ap (find name_cmp k) f.1) ∙ kept_found name_cmp name_cmp-IsAntisymmetric (is_above last) k v links above found in
    let behind : find name_cmp k (left_of (Some name) links) ≡ Some v = ap (find name_cmp k) more.0 ∙ sym (ap (λ o. cond (is_eq o) (Some i) (find name_cmp k f.0)) before) ∙ here in
    both_less name k before (less (name_cmp name k) (subst T (sym (found_passes name_cmp name_cmp-IsAntisymmetric (is_above (Some name)) k v links behind)) tt))

some_value : (o : Option ℕ) → IsSome o → (v : ℕ) × (o ≡ Some v)
some_value None h = absurd (false≢true h)
some_value (Some v) h = (v, refl)

-- ---- the children of a node

pub first_child : (x : BareInode) (i : Inode) (children : ChildRecord) (number : ℕ) (last : Option (List ℕ)) (m : List ℕ) (id : ℕ)
    → numbered number (bare i) ≡ x → i.content ≡ content.Directory children → AscendsByName children.links → Some (m, id) ≡ first_above last children.links → IsFirstChild x last m id
first_child x i children number last m id is dir sorted e =
    let f = first_is (left_of last children.links) (m, id) (sym e) in
    record {
      leads = sym (child_in x i children number m is dir) ∙ (first_left last children.links f.0 m id sorted f.1).1;
      above = first_passes name_cmp name_cmp-IsAntisymmetric (is_above last) (m, id) f.0 children.links f.1;
      first = λ k above there before.
          let v = some_value (child_of x k) there in
          least last children.links m k id v.0 sorted (sym e) above (child_in x i children number k is dir ∙ v.1) before;
    }

pub no_child_above : (x : BareInode) (i : Inode) (children : ChildRecord) (number : ℕ) (last : Option (List ℕ))
    → numbered number (bare i) ≡ x → i.content ≡ content.Directory children → None ≡ first_above last children.links → IsChildAbove x last None
no_child_above x i children number last is dir e k above = sym (child_in x i children number k is dir) ∙ nothing (find name_cmp k children.links) refl
  where
    nothing : (o : Option ℕ) → find name_cmp k children.links ≡ o → o ≡ None
    nothing None f = refl
    nothing (Some v) f =
        absurd (false≢true (ap is_some (sym (ap (find name_cmp k) (none_is (left_of last children.links) (sym e))) ∙ kept_found name_cmp name_cmp-IsAntisymmetric (is_above last) k v children.links above f)))

pub no_child_of_file : (x : BareInode) (i : Inode) (bytes : FileRecord) (number : ℕ) (last : Option (List ℕ)) → numbered number (bare i) ≡ x → i.content ≡ content.File bytes → IsChildAbove x last None
no_child_of_file x i bytes number last is file k above = sym (no_child_in x i bytes number k is file)
