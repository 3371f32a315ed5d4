-- Parts stand for a tree exactly where they have an index for it.
use Rattle.std.proofs.Common.{◌≡◌, inl, inr, ℕ, ◌≤◌, Bool, true, false, cond, leb, List, [], ◌∷◌, ◌++◌, length, Option, Some, None, option_map, option_and_then, is_some, IsSome, unwrap_or, refl, ap, sym, subst, ◌∙◌, append_assoc, append-nil, arith}
use Rattle.std.proofs.lemmas.Bool.{false≢true}
use Rattle.std.proofs.lemmas.Bool.Decides.{leb_tells}
use Rattle.std.specs.FinMap as fin
use Rattle.path_text.specs.Paths.{path_cmp_total, path_cmp-IsAntisymmetric}
use Rattle.namespace_model.specs.Nodes.{Node, blank, kind_of}
use Rattle.namespace_model.specs.Trees.{Path, Tree, at, IsTree}
use Rattle.inode_tree.specs.Inodes.{BareInode, node_of}
use Rattle.inode_tree.specs.Parts.{Parts, inode_at, child_of, child_at, follow, id_at, node_at, tree_of}
use Rattle.inode_tree.specs.Stands.{AreStriped, Stands}
use Rattle.inode_tree.specs.Index.{IsIndex}
use Rattle.inode_tree.proofs.ShownTree.{at-tree_of}
use Rattle.inode_tree.proofs.FrameLemmas.{follow-append, short_id}

pub there : {A : Type 0} (o : Option A) → IsSome o → (x : A) × (o ≡ Some x)
there None h = absurd (false≢true h)
there (Some x) h = (x, refl)

pub some_there : {A : Type 0} {o : Option A} {x : A} → o ≡ Some x → IsSome o
some_there e = ap is_some e

short_path : (n : ℕ) → n ≤ 60 → leb n 60 ≡ true
short_path n h = elim (leb_tells n 60) [ inl k ↦ k.0 | inr k ↦ absurd (let u = k.1 in omega arith) ]

-- a path that is there has at most 60 names
there_short : (t : Tree) → IsTree t → (p : Path) → IsSome (at t p) → leb (length p) 60 ≡ true
there_short t tree p h = short_path (length p) ((tree.limits p h).depth_within)

pub shown_at : (parts : Parts) (id : ℕ) (x : BareInode) → inode_at parts id ≡ Some x → node_at parts id ≡ node_of x
shown_at parts id x e = ap (λ i. unwrap_or (option_map node_of i) blank) e

pub child_of_known : (parts : Parts) (id : ℕ) (x : BareInode) (n : List ℕ) → inode_at parts id ≡ Some x → child_at parts id n ≡ child_of x n
child_of_known parts id x n e = ap (option_and_then (λ y. child_of y n)) e

pub same_some : {A : Type 0} {x y : A} → Some x ≡ Some y → x ≡ y
same_some {A} {x} {y} e = ap (λ o. unwrap_or o x) e

just : {A : Type 0} (o : Option A) → option_and_then (λ x. Some x) o ≡ o
just None = refl
just (Some x) = refl

neither : {A : Type 0} (b : Bool) → cond {A = Option A} b None None ≡ None
neither true = refl
neither false = refl

-- ---- from an index

module _ (parts : Parts) (t : Tree) (ids : Path → Option ℕ) (index : IsIndex parts t ids) where
  nothing_below : (q r : Path) → ids q ≡ None → ids (q ++ r) ≡ None
  nothing_below q [] e = ap ids (append-nil q) ∙ e
  nothing_below q (n ∷ r) e = ap ids (sym (append_assoc q (n ∷ []) r)) ∙ nothing_below (q ++ n ∷ []) r (index.below_nothing q n e)

  way : (q r : Path) (id : ℕ) → ids q ≡ Some id → follow parts id r ≡ ids (q ++ r)
  way q [] id e = sym (ap ids (append-nil q) ∙ e)
  way q (n ∷ r) id e =
      let place = index.places q id e in
      ap (option_and_then (λ c. follow parts c r)) (child_of_known parts id place.inode n place.found ∙ place.links n)
      ∙ by_child (ids (q ++ n ∷ [])) refl (way (q ++ n ∷ []) r) ∙ ap ids (append_assoc q (n ∷ []) r)
    where
      by_child : (o : Option ℕ) → ids (q ++ n ∷ []) ≡ o → ((c : ℕ) → ids (q ++ n ∷ []) ≡ Some c → follow parts c r ≡ ids ((q ++ n ∷ []) ++ r))
          → option_and_then (λ c. follow parts c r) o ≡ ids ((q ++ n ∷ []) ++ r)
      by_child None k deeper = sym (nothing_below (q ++ n ∷ []) r k)
      by_child (Some c) k deeper = deeper c k

  -- the index is what is reached
  pub followed : (p : Path) → follow parts 0 p ≡ ids p
  followed p = way [] p 0 index.account

  indexed_node : IsTree t → (q : Path) → option_map (node_at parts) (id_at parts q) ≡ at t q
  indexed_node tree q = by_test (leb (length q) 60) refl
    where
      by_id : (o : Option ℕ) → ids q ≡ o → option_map (node_at parts) o ≡ at t q
      by_id None k = sym (index.nothing q k)
      by_id (Some id) k = let place = index.places q id k in ap Some (shown_at parts id place.inode place.found) ∙ sym place.shows

      by_node : leb (length q) 60 ≡ false → (o : Option Node) → at t q ≡ o → None ≡ o
      by_node long None k = refl
      by_node long (Some x) k = absurd (false≢true (sym long ∙ there_short t tree q (some_there k)))

      by_test : (b : Bool) → leb (length q) 60 ≡ b → option_map (node_at parts) (cond b (follow parts 0 q) None) ≡ at t q
      by_test true short = ap (option_map (node_at parts)) (followed q) ∙ by_id (ids q) refl
      by_test false long = by_node long (at t q) refl

  pub stands_from_index : AreStriped parts → IsTree t → Stands parts t
  stands_from_index striped tree = record {
    striped = striped;
    tree = tree;
    shown = fin.same_map path_cmp_total path_cmp-IsAntisymmetric (tree_of parts) t (λ q. at-tree_of parts q ∙ indexed_node tree q);
    found = λ p id e. some_there (index.places p id (sym (followed p) ∙ e)).found;
    once = λ p q id e f. index.once p q id (sym (followed p) ∙ e) (sym (followed q) ∙ f);
    kept = λ id h.
        let reached = index.kept id h in
        let place = index.places reached.0 id reached.1 in
        (reached.0, short_id parts reached.0 (there_short t tree reached.0 (some_there place.shows)) ∙ followed reached.0 ∙ reached.1);
    kinds = λ id x e.
        let reached = index.kept id (some_there e) in
        let place = index.places reached.0 id reached.1 in
        subst (λ (y : BareInode). y.meta.kind ≡ kind_of (node_of y)) (same_some (sym place.found ∙ e)) place.kind;
  }

-- ---- to an index

pub cut_follow : (parts : Parts) (p : Path) (id : ℕ) → id_at parts p ≡ Some id → (leb (length p) 60 ≡ true) × (follow parts 0 p ≡ Some id)
cut_follow parts p id e = by_test (leb (length p) 60) refl e
  where
    by_test : (b : Bool) → leb (length p) 60 ≡ b → cond b (follow parts 0 p) None ≡ Some id → (leb (length p) 60 ≡ true) × (follow parts 0 p ≡ Some id)
    by_test true short k = (short, k)
    by_test false long k = absurd (false≢true (ap is_some k))

module _ (parts : Parts) (t : Tree) (stands : Stands parts t) where
  pub reached_short : (p : Path) (id : ℕ) → follow parts 0 p ≡ Some id → leb (length p) 60 ≡ true
  reached_short p id e =
      let way = stands.kept id (stands.found p id e) in
      let cut = cut_follow parts way.0 id way.1 in
      subst (λ (q : Path). leb (length q) 60 ≡ true) (stands.once way.0 p id cut.1 e) cut.0

  node_there : (p : Path) → at t p ≡ option_map (node_at parts) (id_at parts p)
  node_there p = ap (λ (u : Tree). at u p) (sym stands.shown) ∙ at-tree_of parts p

  pub index_from_stands : IsIndex parts t (follow parts 0)
  index_from_stands = record {
    account = refl;
    places = λ p id e.
        let x = there (inode_at parts id) (stands.found p id e) in
        record {
          inode = x.0;
          found = x.1;
          kind = stands.kinds id x.0 x.1;
          shows = node_there p ∙ ap (option_map (node_at parts)) (short_id parts p (reached_short p id e) ∙ e) ∙ ap Some (shown_at parts id x.0 x.1);
          links = λ n. sym (follow-append parts 0 p (n ∷ []) ∙ ap (option_and_then (λ c. follow parts c (n ∷ []))) e ∙ just (child_at parts id n) ∙ child_of_known parts id x.0 n x.1);
        };
    nothing = λ p e. node_there p ∙ ap (option_map (node_at parts)) (ap (λ o. cond (leb (length p) 60) o None) e ∙ neither (leb (length p) 60));
    below_nothing = λ p n e. follow-append parts 0 p (n ∷ []) ∙ ap (option_and_then (λ c. follow parts c (n ∷ []))) e;
    once = stands.once;
    kept = λ id h. let way = stands.kept id h in (way.0, (cut_follow parts way.0 id way.1).1);
  }
