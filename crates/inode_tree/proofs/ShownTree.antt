-- What the tree that parts show has at each path: the node of the path's id.
use Rattle.std.proofs.Common.{◌≡◌, ℕ, zero, suc, Bool, true, false, cond, ◌&&◌, T, leb, List, [], ◌∷◌, ◌++◌, flat_map, length, Option, Some, None, option_map, option_and_then, unwrap_or, refl, ap, sym, ◌∙◌}
use Rattle.std.specs.Option.{option_or}
use Rattle.std.specs.declared.cmp.Ordering.{Ordering}
use Rattle.std.specs.declared.cmp.Ordering.TheVariants.{Less, Equal, Greater}
use Rattle.std.specs.Ordering.{is_lt, is_eq, ordering_then, eq_by_cmp}
use Rattle.std.specs.FinMap as fin
use Rattle.std.specs.FinMap.{find, is_sorted}
use Rattle.std.specs.FinMap.Entries.{below_all}
use Rattle.std.proofs.Math.Dec.{leb-zero, leb-suc-zero, leb-suc-suc}
use Rattle.path_text.specs.Paths.{path_cmp, path_cmp_total}
use Rattle.namespace_model.specs.Nodes.{Node}
use Rattle.namespace_model.specs.Trees.{Path, at}
use Rattle.inode_tree.specs.ChildLists.{name_cmp}
use Rattle.inode_tree.specs.Inodes.{BareInode, links_in}
use Rattle.inode_tree.specs.Parts.{Parts, inode_at, child_of, follow, id_at, node_at, under, listing, tree_of}
use Rattle.inode_tree.proofs.MapLemmas.{name_cmp-IsAntisymmetric}

-- ---- one name more

find_in_two : (q : Path) (xs ys : List (Path × Node)) → find path_cmp q (xs ++ ys) ≡ option_or (find path_cmp q xs) (find path_cmp q ys)
find_in_two q [] ys = refl
find_in_two q (x ∷ xs) ys = by_test (eq_by_cmp path_cmp q x.0) (find_in_two q xs ys)
  where
    by_test : (b : Bool) → find path_cmp q (xs ++ ys) ≡ option_or (find path_cmp q xs) (find path_cmp q ys)
        → cond b (Some x.1) (find path_cmp q (xs ++ ys)) ≡ option_or (cond b (Some x.1) (find path_cmp q xs)) (find path_cmp q ys)
    by_test true h = refl
    by_test false h = h

none_left : {A : Type 0} (b : Bool) → cond {A = Option A} b None None ≡ None
none_left true = refl
none_left false = refl

-- below a name is found what stands behind it
find_under : (name other : List ℕ) (q : Path) (es : List (Path × Node)) → find path_cmp (name ∷ q) (under other es) ≡ cond (is_eq (name_cmp name other)) (find path_cmp q es) None
find_under name other q [] = sym (none_left (is_eq (name_cmp name other)))
find_under name other q (e ∷ es) = by_order (name_cmp name other) _ (find_under name other q es)
  where
    by_order : (o : Ordering) (rest : Option Node) → rest ≡ cond (is_eq o) (find path_cmp q es) None
        → cond (is_eq (ordering_then o (path_cmp q e.0))) (Some e.1) rest ≡ cond (is_eq o) (cond (eq_by_cmp path_cmp q e.0) (Some e.1) (find path_cmp q es)) None
    by_order Less rest h = h
    by_order Equal rest h = ap (cond (eq_by_cmp path_cmp q e.0) (Some e.1)) h
    by_order Greater rest h = h

-- ---- children

both : (a b : Bool) → T (a && b) → T a × T b
both true b h = (tt, h)
both false b h = absurd h

-- a name below all others is not found among them
find_below : (name : List ℕ) (links : List (List ℕ × ℕ)) → T (below_all name_cmp name links) → find name_cmp name links ≡ None
find_below name [] h = refl
find_below name (l ∷ ls) h = by_order (name_cmp name l.0) h (find_below name ls)
  where
    by_order : (o : Ordering) → T (is_lt o && below_all name_cmp name ls) → (T (below_all name_cmp name ls) → find name_cmp name ls ≡ None)
        → cond (is_eq o) (Some l.1) (find name_cmp name ls) ≡ None
    by_order Less h rest = rest h
    by_order Equal h rest = absurd h
    by_order Greater h rest = absurd h

or_none : {A : Type 0} (o : Option A) → option_or o None ≡ o
or_none None = refl
or_none (Some x) = refl

module _ (parts : Parts) (depth : ℕ) where
  -- behind a name is found what the id of its link lists
  find_children : (name : List ℕ) (q : Path) (links : List (List ℕ × ℕ)) → T (is_sorted name_cmp links)
      → find path_cmp (name ∷ q) (flat_map (λ (link : List ℕ × ℕ). under link.0 (listing parts depth link.1)) links)
      ≡ option_and_then (λ child. find path_cmp q (listing parts depth child)) (find name_cmp name links)
  find_children name q [] h = refl
  find_children name q (l ∷ ls) h =
      let sorted = both _ _ h in
      find_in_two (name ∷ q) (under l.0 (listing parts depth l.1)) _
      ∙ ap (λ o. option_or o (find path_cmp (name ∷ q) (flat_map (λ (link : List ℕ × ℕ). under link.0 (listing parts depth link.1)) ls))) (find_under name l.0 q (listing parts depth l.1))
      ∙ by_order (name_cmp name l.0) refl sorted.0 (find_children name q ls sorted.1)
    where
      by_order : (o : Ordering) → name_cmp name l.0 ≡ o → T (below_all name_cmp l.0 ls)
          → find path_cmp (name ∷ q) (flat_map (λ (link : List ℕ × ℕ). under link.0 (listing parts depth link.1)) ls) ≡ option_and_then (λ child. find path_cmp q (listing parts depth child)) (find name_cmp name ls)
          → option_or (cond (is_eq o) (find path_cmp q (listing parts depth l.1)) None) (find path_cmp (name ∷ q) (flat_map (λ (link : List ℕ × ℕ). under link.0 (listing parts depth link.1)) ls))
          ≡ option_and_then (λ child. find path_cmp q (listing parts depth child)) (cond (is_eq o) (Some l.1) (find name_cmp name ls))
      by_order Less e fits h = h
      by_order Greater e fits h = h
      by_order Equal e fits h =
          let same : name ≡ l.0 = name_cmp-IsAntisymmetric name l.0 e in
          let lacks : find name_cmp name ls ≡ None = ap (λ n. find name_cmp n ls) same ∙ find_below l.0 ls fits in
          ap (option_or (find path_cmp q (listing parts depth l.1))) (h ∙ ap (option_and_then (λ child. find path_cmp q (listing parts depth child))) lacks) ∙ or_none _

-- ---- the tree

module _ (parts : Parts) (depth : ℕ) (name : List ℕ) (q : Path)
    (deeper : (child : ℕ) → find path_cmp q (listing parts depth child) ≡ cond (leb (length q) depth) (option_map (node_at parts) (follow parts child q)) None) where
  by_child : (child : Option ℕ) → option_and_then (λ c. find path_cmp q (listing parts depth c)) child
      ≡ cond (leb (length q) depth) (option_map (node_at parts) (option_and_then (λ c. follow parts c q) child)) None
  by_child None = sym (none_left (leb (length q) depth))
  by_child (Some c) = deeper c

  find_behind : (i : Option BareInode)
      → find path_cmp (name ∷ q) (flat_map (λ (link : List ℕ × ℕ). under link.0 (listing parts depth link.1)) (unwrap_or (option_map (λ x. fin.entries (links_in x.content)) i) []))
      ≡ cond (leb (length q) depth) (option_map (node_at parts) (option_and_then (λ c. follow parts c q) (option_and_then (λ x. child_of x name) i))) None
  find_behind None = sym (none_left (leb (length q) depth))
  find_behind (Some x) =
      find_children parts depth name q (fin.entries (links_in x.content)) (fin.entries_sorted (links_in x.content))
      ∙ ap (option_and_then (λ c. find path_cmp q (listing parts depth c))) (sym (fin.get-entries (links_in x.content) name))
      ∙ by_child (child_of x name)

find_listed : (parts : Parts) (depth id : ℕ) (q : Path) → find path_cmp q (listing parts depth id) ≡ cond (leb (length q) depth) (option_map (node_at parts) (follow parts id q)) None
find_listed parts zero id [] = refl
find_listed parts zero id (name ∷ q) = sym (ap (λ b. cond b (option_map (node_at parts) (follow parts id (name ∷ q))) None) (leb-suc-zero (length q)))
find_listed parts (suc depth) id [] = sym (ap (λ b. cond b (Some (node_at parts id)) None) (leb-zero (suc depth)))
find_listed parts (suc depth) id (name ∷ q) =
    find_behind parts depth name q (λ child. find_listed parts depth child q) (inode_at parts id)
    ∙ sym (ap (λ b. cond b (option_map (node_at parts) (follow parts id (name ∷ q))) None) (leb-suc-suc (length q) depth))

pub at-tree_of : (parts : Parts) (q : Path) → at (tree_of parts) q ≡ option_map (node_at parts) (id_at parts q)
unfolding tree_of
at-tree_of parts q = fin.get-from_entries path_cmp_total (listing parts 60 0) q ∙ find_listed parts 60 0 q ∙ by_test (leb (length q) 60)
  where
    by_test : (b : Bool) → cond b (option_map (node_at parts) (follow parts 0 q)) None ≡ option_map (node_at parts) (cond b (follow parts 0 q) None)
    by_test true = refl
    by_test false = refl
