-- What stands below a node, and whether anything does.
use Rattle.std.proofs.Common.{◌≡◌, inl, ℕ, suc, ◌==◌, true, false, cond, not, ◌&&◌, List, [], ◌∷◌, ◌++◌, length, Option, Some, None, is_some, refl, ap, sym, ◌∙◌, arith}
use Rattle.std.proofs.lemmas.Bool.{false≢true}
use Rattle.std.proofs.lemmas.Option.{same_Some}
use Rattle.std.specs.Cmp.Lexicographic.{nat_list_cmp_total}
use Rattle.std.specs.FinMap as fin
use Rattle.std.specs.FinMap.{find}
use Rattle.namespace_model.specs.Locality.{Among}
use Rattle.namespace_model.specs.Nodes.{is_directory}
use Rattle.namespace_model.specs.Trees.{Path, Tree, at, is_bare, children, is_child}
use Rattle.namespace_model.proofs.Lookups.{among_keys, keys_among}
use Rattle.namespace_model.proofs.Prefixes.{name_child, child_name}
use Rattle.inode_tree.specs.ChildLists.{name_cmp}
use Rattle.inode_tree.specs.Index.{IsIndex}
use Rattle.inode_tree.specs.Inodes.{BareContent, directory, file, BareInode, links_in, node_of}
use Rattle.inode_tree.specs.Parts.{Parts, inode_at, child_of, follow}
use Rattle.inode_tree.specs.Stands.{Stands}
use Rattle.inode_tree.proofs.IndexLemmas.{index_from_stands}
use Rattle.inode_tree.proofs.LinkLemmas.{key_same}
use Rattle.inode_tree.proofs.MapLemmas.{name_cmp-IsAntisymmetric}
use Rattle.inode_tree.proofs.TurnLemmas.{number_differs}
use Rattle.path_walk.specs.Children.{has_children}

-- ---- the node of a path

module _ (parts : Parts) (t : Tree) (stands : Stands parts t) (path : Path) (i : ℕ) (y : BareInode) (leads : follow parts 0 path ≡ Some i) (there : inode_at parts i ≡ Some y) where
  index : IsIndex parts t (follow parts 0)
  index = index_from_stands parts t stands

  leads_on : (n : List ℕ) → child_of y n ≡ follow parts 0 (path ++ n ∷ [])
  leads_on n =
      let place = index.places path i leads in
      ap (λ (z : BareInode). child_of z n) (same_Some y place.inode (sym there ∙ place.found)) ∙ place.links n

  pub shows_node : at t path ≡ Some (node_of y)
  shows_node =
      let place = index.places path i leads in
      place.shows ∙ ap (λ (z : BareInode). Some (node_of z)) (same_Some place.inode y (sym place.found ∙ there))

  child_leads : (n : List ℕ) (c : Option ℕ) → child_of y n ≡ c → follow parts 0 (path ++ n ∷ []) ≡ c
  child_leads n c e = sym (leads_on n) ∙ e

  no_links : fin.len (links_in y.content) ≡ 0 → (n : List ℕ) → child_of y n ≡ None
  no_links e n = ap (λ k. fin.get k n) (fin.empty_of_len (links_in y.content) e) ∙ fin.get-empty name_cmp n

  -- no links, so nothing stands below
  no_child : fin.len (links_in y.content) ≡ 0 → (q : Path) → Among q (children t path) → ⊥
  no_child e q k =
      let is = keys_among t (is_child path) q k in
      let name = child_name path q is.0 in
      false≢true (sym (ap is_some (index.nothing (path ++ name.0 ∷ []) (child_leads name.0 None (no_links e name.0)))) ∙ ap (λ r. is_some (at t r)) (sym name.1) ∙ is.1)

  -- a link leads to what stands below
  some_child : (n : List ℕ) (c : ℕ) → child_of y n ≡ Some c → Among (path ++ n ∷ []) (children t path)
  some_child n c e =
      among_keys t (is_child path) (path ++ n ∷ []) (ap is_some (index.places (path ++ n ∷ []) c (child_leads n (Some c) e)).shows) (name_child path n)

  none_long : (ps : List Path) → ((q : Path) → Among q ps → ⊥) → (length ps == 0) ≡ true
  none_long [] h = refl
  none_long (q ∷ ps) h = absurd (h q (inl refl))

  some_long : (q : Path) (ps : List Path) → Among q ps → (length ps == 0) ≡ false
  some_long q [] h = absurd h
  some_long q (p ∷ ps) h = number_differs (length (p ∷ ps)) 0 (λ e. let s : length (p ∷ ps) ≡ suc (length ps) = refl in omega arith)

  pub bare_is : is_bare t path ≡ (fin.len (links_in y.content) == 0)
  bare_is = by_entries (fin.entries (links_in y.content)) refl
    where
      by_entries : (es : List (List ℕ × ℕ)) → fin.entries (links_in y.content) ≡ es → is_bare t path ≡ (fin.len (links_in y.content) == 0)
      by_entries [] e =
          let none : fin.len (links_in y.content) ≡ 0 = fin.len-entries (links_in y.content) ∙ ap (λ (l : List (List ℕ × ℕ)). length l) e in
          none_long (children t path) (no_child none) ∙ sym (ap (λ k. k == 0) none)
      by_entries (x ∷ es) e =
          let first : child_of y x.0 ≡ Some x.1 =
          fin.get-entries (links_in y.content) x.0 ∙ ap (find name_cmp x.0) e
          ∙ ap (λ b. cond b (Some x.1) (find name_cmp x.0 es)) (key_same name_cmp nat_list_cmp_total name_cmp-IsAntisymmetric x.0) in
          some_long (path ++ x.0 ∷ []) (children t path) (some_child x.0 x.1 first)
          ∙ sym (number_differs (fin.len (links_in y.content)) 0 (λ none. let l : fin.len (links_in y.content) ≡ length (x ∷ es) = fin.len-entries (links_in y.content) ∙ ap (λ (l : List (List ℕ × ℕ)). length l) e in let s : length (x ∷ es) ≡ suc (length es) = refl in omega arith))

  -- a directory that isn't empty is a node below which something stands
  pub filled_is : (is_directory (node_of y) && not (is_bare t path)) ≡ has_children y
  filled_is = by_content y.content refl
    where
      by_content : (c : BareContent) → y.content ≡ c → (is_directory (node_of y) && not (is_bare t path)) ≡ has_children y
      by_content (directory links) same = ap (λ (d : BareContent). is_directory (node_of (record y { content = d })) && not (is_bare t path)) same ∙ ap not bare_is
      by_content (file bytes staged) same =
          ap (λ (d : BareContent). is_directory (node_of (record y { content = d })) && not (is_bare t path)) same
          ∙ sym (ap not (ap (λ (d : BareContent). fin.len (links_in d) == 0) same ∙ ap (λ j. j == 0) (fin.len-empty name_cmp ℕ)))
