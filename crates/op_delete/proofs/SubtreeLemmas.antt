-- Whether a directory is empty, and what stands below a node without children.
use Rattle.std.proofs.Common.{◌≡◌, inl, ℕ, suc, ◌==◌, Bool, true, false, not, ◌&&◌, List, [], ◌∷◌, ◌++◌, map, length, Option, Some, None, is_some, refl, sym, ap, ◌∙◌, arith}
use Rattle.std.proofs.lemmas.Bool.{false≢true}
use Rattle.std.proofs.lemmas.Bool.Decides.{nat_tests}
use Rattle.std.specs.FinMap as fin
use Rattle.namespace_model.specs.Locality.{Among}
use Rattle.namespace_model.specs.Nodes.{is_directory}
use Rattle.namespace_model.specs.Trees.{Path, Tree, at, is_child, is_bare, children, subtree}
use Rattle.namespace_model.proofs.Lookups.{among_keys, keys_among}
use Rattle.namespace_model.proofs.Prefixes.{child_name, name_child}
use Rattle.inode_tree.specs.After.{with_id}
use Rattle.inode_tree.specs.ChildLists.{name_cmp}
use Rattle.inode_tree.specs.Footprints.{ids_of}
use Rattle.inode_tree.specs.Inodes.{BareContent, directory, file, BareInode, node_of, links_in}
use Rattle.inode_tree.specs.Parts.{Parts, child_of, follow, id_at}
use Rattle.inode_tree.specs.Stands.{Stands}
use Rattle.inode_tree.proofs.FrameLemmas.{short_id}
use Rattle.inode_tree.proofs.IndexLemmas.{index_from_stands, reached_short}
use Rattle.path_order.specs.Cursors.{IsAt}
use Rattle.path_order.specs.PagesBelow.{below}
use Rattle.path_order.proofs.CursorLemmas.{is_there, names_lead, nothing_left}
use Rattle.path_order.proofs.PageLemmas.{nothing_is}
use Rattle.path_order.proofs.SubtreeLists.{subtree_is}
use Rattle.path_order.proofs.WholeLemmas.{all_below}
use Rattle.path_walk.specs.Children.{has_children}
use Rattle.path_walk.proofs.ChildLemmas.{no_child, a_child}

module _ (parts : Parts) (t : Tree) (stands : Stands parts t) (path : Path) (root : ℕ) (x : BareInode) (is : IsAt parts path root x) where
  child_leads : (n : List ℕ) → follow parts 0 (path ++ n ∷ []) ≡ child_of x n
  child_leads n = sym (names_lead parts t stands path root x is n)

  some_child : (c : BareContent) → x.content ≡ c → (n : List ℕ) (i : ℕ) → child_of x n ≡ Some i → is_directory (node_of x) ≡ true
  some_child (directory links) same n i e = ap (λ (c : BareContent). is_directory (node_of (record x { content = c }))) same
  some_child (file bytes staged) same n i e =
      absurd (false≢true (sym (ap is_some (ap (λ (c : BareContent). fin.get (links_in c) n) same ∙ fin.get-empty name_cmp n)) ∙ ap is_some e))

  not_bare : (ps : List Path) (p : Path) → Among p ps → (length ps == 0) ≡ false
  not_bare [] p h = absurd h
  not_bare (q ∷ ps) p h = some_length (length ps)
    where
      some_length : (m : ℕ) → (suc m == 0) ≡ false
      some_length m = grind (arith, nat_tests)

  has_some : has_children x ≡ true → (is_directory (node_of x) && not (is_bare t path)) ≡ true
  has_some h =
      let child = a_child x h in
      let there = ap is_some ((index_from_stands parts t stands).places (path ++ child.0 ∷ []) child.1.0 (child_leads child.0 ∙ child.1.1)).shows in
      ap (λ b. b && not (is_bare t path)) (some_child x.content refl child.0 child.1.0 child.1.1)
      ∙ ap not (not_bare (children t path) (path ++ child.0 ∷ []) (among_keys t (is_child path) (path ++ child.0 ∷ []) there (name_child path child.0)))

  bare_list : has_children x ≡ false → (ps : List Path) → ((p : Path) → Among p ps → Among p (children t path)) → (length ps == 0) ≡ true
  bare_list h [] within = refl
  bare_list h (q ∷ ps) within =
      let key = keys_among t (is_child path) q (within q (inl refl)) in
      let name = child_name path q key.0 in
      let none : at t q ≡ None = ap (at t) name.1 ∙ (index_from_stands parts t stands).nothing (path ++ name.0 ∷ []) (child_leads name.0 ∙ no_child x h name.0) in
      absurd (false≢true (sym (ap is_some none) ∙ key.1))

  has_none : has_children x ≡ false → (is_directory (node_of x) && not (is_bare t path)) ≡ false
  has_none h = by_kind (is_directory (node_of x)) (bare_list h (children t path) (λ p k. k))
    where
      by_kind : (d : Bool) → is_bare t path ≡ true → (d && not (is_bare t path)) ≡ false
      by_kind true e = ap not e
      by_kind false e = refl

  -- a node has children where it is a directory that isn't empty
  pub children_there : (b : Bool) → has_children x ≡ b → (is_directory (node_of x) && not (is_bare t path)) ≡ b
  children_there true h = has_some h
  children_there false h = has_none h

  -- the id of the path
  pub the_id : id_at parts path ≡ Some root
  the_id = short_id parts path (reached_short parts t stands path root is.leads) ∙ is.leads

  pub one_id : ids_of parts (path ∷ []) ≡ root ∷ []
  one_id = ap (λ (o : Option ℕ). map (λ (z : Path × ℕ). z.1) (with_id path o ++ [])) the_id

  -- a node without children stands alone
  pub alone_ids : has_children x ≡ false → ids_of parts (subtree t path) ≡ root ∷ []
  alone_ids h =
      let none : below t path ≡ [] = sym (all_below t path) ∙ nothing_is t path path (nothing_left parts t stands path root x is (λ k above. no_child x h k)) in
      ap (ids_of parts) (subtree_is t path (is_there parts t stands path root is.leads) ∙ ap (λ (l : List Path). path ∷ l) none) ∙ one_id
