-- The effects of looks, edits and deletes lie on the tree as they have to.
use Rattle.std.proofs.Common.{◌≡◌, ◌⊎◌, inl, inr, ℕ, suc, Bool, true, false, cond, not, ◌&&◌, ◌==◌, List, [], ◌∷◌, ◌++◌, map, length, slice_get, Option, Some, None, is_some, refl, ap, sym, subst, ◌∙◌, append_assoc, arith}
use Rattle.std.proofs.lemmas.Bool.{false≢true, cases_Bool}
use Rattle.std.proofs.lemmas.List.{append-nil}
use Rattle.std.proofs.lemmas.Option.{same_Some}
use Rattle.std.specs.Ordering.{eq_by_cmp}
use Rattle.std.specs.Cmp.{unsigned_Decides}
use Rattle.std.specs.FinMap.{find}
use Rattle.path_text.specs.Paths.{path_cmp, is_prefix}
use Rattle.namespace_model.specs.Nodes.{Node, is_directory}
use Rattle.namespace_model.specs.Trees.{Path, Tree, at, parent, keys_where, is_child, is_bare, subtree, IsDirectory, IsLaid, IsTree}
use Rattle.namespace_model.specs.Effects.{Put, nothing}
use Rattle.namespace_model.specs.Locality.{Among}
use Rattle.namespace_model.specs.Shapes.{HasShape, KeepsKind}
use Rattle.namespace_model.proofs.Lookups.{among_keys, keys_among, path_from_eq}
use Rattle.namespace_model.proofs.Prefixes.{behind_front, front_of_append, name_child, parent_name, parent_of_child}
use Rattle.namespace_model.proofs.Alikeness.{nothing_below}

pub none_some : {A : Type 0} (x : A) → ◌≡◌ {A = Option A} None (Some x) → ⊥
none_some x e = false≢true (ap is_some e)

-- where nothing changes
pub still_shape : (t : Tree) → HasShape t [] [] nothing
still_shape t = record {
  writes = record { taken_too = λ p h. h; put_too = λ p h. h; fresh_too = λ p h. h; above_taken = λ p h. absurd h; above_fresh = λ p h. absurd h; moved = tt };
  placed = record { taken_below = λ p q h k. absurd h; put = λ p h. absurd h; fresh_put = λ p h. absurd h; fresh_free = λ p h. absurd h };
  growth = record { kinds = λ p put e h. absurd (none_some put e); limits = λ p h. absurd h; above = λ p h. absurd h; account_old = λ h. h; account_stays = λ h. h; moved = tt };
}

-- ---- edits in place

-- nodes are put in place of nodes of the same kind
pub record ArePutsInPlace (t : Tree) (puts : List (Path × Put)) : Type 0 where
  pub there : (p : Path) → Among p (map (λ (x : Path × Put). x.0) puts) → is_some (at t p) ≡ true
  pub kinds : (p : Path) (put : Put) → find path_cmp p puts ≡ Some put → KeepsKind (at t p) put

pub edits_shaped : (t : Tree) (puts : List (Path × Put)) → ArePutsInPlace t puts
    → HasShape t (map (λ (x : Path × Put). x.0) puts) [] (record { taken = []; puts = puts; move = None })
edits_shaped t puts is = record {
  writes = record { taken_too = λ p h. absurd h; put_too = λ p h. h; fresh_too = λ p h. absurd h; above_taken = λ p h. absurd h; above_fresh = λ p h. absurd h; moved = tt };
  placed = record { taken_below = λ p q h k. absurd h; put = λ p h. inl (is.there p h, λ k. k); fresh_put = λ p h. absurd h; fresh_free = λ p h. absurd h };
  growth = record { kinds = λ p put e h. is.kinds p put e; limits = λ p h. absurd h; above = λ p h. absurd h; account_old = λ h. h; account_stays = λ h. h; moved = tt };
}

pub one_kind : (t : Tree) (p q : Path) (b : Bool) (put other : Put) (x : Node) → eq_by_cmp path_cmp q p ≡ b → at t p ≡ Some x → is_directory put.node ≡ is_directory x
    → ◌≡◌ {A = Option Put} (cond b (Some put) None) (Some other) → KeepsKind (at t q) other
one_kind t p q true put other x same there kind e =
    let here : at t q ≡ Some x = ap (at t) (path_from_eq q p same) ∙ there in
    let is : put ≡ other = same_Some put other e in
    subst (λ (o : Option Node). KeepsKind o other) (sym here) (ap (λ (y : Put). is_directory y.node) (sym is) ∙ kind)
one_kind t p q false put other x same there kind e = absurd (none_some other e)

-- one node is put in place of one of the same kind
pub edit_shape : (t : Tree) (p : Path) (put : Put) (x : Node) → at t p ≡ Some x → is_directory put.node ≡ is_directory x → HasShape t (p ∷ []) [] (record { taken = []; puts = (p, put) ∷ []; move = None })
edit_shape t p put x there kind =
    edits_shaped t ((p, put) ∷ []) (record {
      there = λ q h. elim h [ inl e ↦ ap (λ r. is_some (at t r)) e ∙ ap is_some there | inr k ↦ absurd k ];
      kinds = λ q other e. one_kind t p q (eq_by_cmp path_cmp q p) put other x refl there kind e;
    })

-- ---- a subtree that goes

pub not_empty : (p : Path) (n : List ℕ) (q : Path) → p ++ n ∷ q ≡ [] → ⊥
not_empty [] n q e = none_some n (ap (λ (r : Path). slice_get r 0) (sym e))
not_empty (m ∷ p) n q e = none_some m (ap (λ (r : Path). slice_get r 0) (sym e))

parent_below : (p r : Path) (n : List ℕ) → parent (p ++ (r ++ n ∷ [])) ≡ p ++ r
parent_below p r n = ap parent (sym (append_assoc p r (n ∷ []))) ∙ parent_of_child (p ++ r) n

pub directory_is_there : (o : Option Node) → IsDirectory o → is_some o ≡ true
directory_is_there None h = absurd h
directory_is_there (Some x) h = refl

-- all at and below a path goes, out of its parent
pub gone_shaped : (t : Tree) → IsTree t → (p : Path) (out_of : Path) → (p ≡ [] → ⊥) → out_of ≡ parent p
    → HasShape t (out_of ∷ subtree t p) [] (record { taken = subtree t p; puts = []; move = None })
gone_shaped t is p out_of some up = record {
  writes = record {
    taken_too = λ q h. inr h;
    put_too = λ q h. absurd h;
    fresh_too = λ q h. absurd h;
    above_taken = λ q h. above q (keys_among t (is_prefix p) q h);
    above_fresh = λ q h. absurd h;
    moved = tt;
  };
  placed = record { taken_below = λ q r h there. below q r (keys_among t (is_prefix p) q h).0 there; put = λ q h. absurd h; fresh_put = λ q h. absurd h; fresh_free = λ q h. absurd h };
  growth = record { kinds = λ q put e h. absurd (none_some put e); limits = λ q h. absurd h; above = λ q h. absurd h; account_old = λ h. h; account_stays = λ h. account (keys_among t (is_prefix p) [] h).0; moved = tt };
}
  where
    by_end : (q r : Path) → q ≡ p ++ r → is_some (at t q) ≡ true → (r ≡ []) ⊎ ((n : List ℕ) × (r ≡ parent r ++ n ∷ [])) → Among (parent q) (out_of ∷ subtree t p)
    by_end q r e there (inl none) = inl (ap parent (e ∙ ap (λ x. p ++ x) none ∙ append-nil p) ∙ sym up)
    by_end q r e there (inr h) =
        let whole : q ≡ (p ++ parent r) ++ h.0 ∷ [] = e ∙ ap (λ x. p ++ x) h.1 ∙ sym (append_assoc p (parent r) (h.0 ∷ [])) in
        let over : is_some (at t (p ++ parent r)) ≡ true = directory_is_there (at t (p ++ parent r)) (is.parents (p ++ parent r) h.0 (subst (λ x. is_some (at t x) ≡ true) whole there)) in
        inr (subst (λ x. Among x (subtree t p)) (sym (ap parent whole ∙ parent_of_child (p ++ parent r) h.0)) (among_keys t (is_prefix p) (p ++ parent r) over (front_of_append p (parent r))))

    above : (q : Path) → (is_prefix p q ≡ true) × (is_some (at t q) ≡ true) → Among (parent q) (out_of ∷ subtree t p)
    above q h = let rest = behind_front p q h.0 in by_end q rest.0 rest.1 h.1 (parent_name rest.0)

    below : (q r : Path) → is_prefix p q ≡ true → is_some (at t (q ++ r)) ≡ true → Among (q ++ r) (subtree t p)
    below q r front there =
        let rest = behind_front p q front in
        among_keys t (is_prefix p) (q ++ r) there (subst (λ x. is_prefix p x ≡ true) (sym (ap (λ x. x ++ r) rest.1 ∙ append_assoc p rest.0 r)) (front_of_append p (rest.0 ++ r)))

    empty_front : (p : Path) → is_prefix p [] ≡ true → p ≡ []
    empty_front [] e = refl
    empty_front (n ∷ p) e = absurd (false≢true e)

    account : is_prefix p [] ≡ true → ⊥
    account e = some (empty_front p e)

-- ---- what is bare

-- nothing stands below a file, nor below a directory without children
pub nothing_under : (t : Tree) → IsLaid t → (p : Path) (y : Node) → at t p ≡ Some y → (is_directory y && not (is_bare t p)) ≡ false → (n : List ℕ) (r : Path) → is_some (at t (p ++ n ∷ r)) ≡ false
nothing_under t laid p y there bare n r = by_child (cases_Bool (is_some (at t (p ++ n ∷ []))))
  where
    empty_list : (l : List Path) (q : Path) → (length l == 0) ≡ true → Among q l → ⊥
    empty_list [] q e h = h
    empty_list (x ∷ l) q e h = let none : length (x ∷ l) ≡ 0 = (unsigned_Decides (length (x ∷ l)) 0).0 e in let some : length (x ∷ l) ≡ suc (length l) = refl in absurd (omega arith)

    no_child : (d b : Bool) → (d && not b) ≡ false → d ≡ true → b ≡ true
    no_child true true e k = refl
    no_child true false e k = absurd (false≢true (sym e))
    no_child false b e k = absurd (false≢true k)

    by_child : (is_some (at t (p ++ n ∷ [])) ≡ true) ⊎ (is_some (at t (p ++ n ∷ [])) ≡ false) → is_some (at t (p ++ n ∷ r)) ≡ false
    by_child (inl child) =
        let dir : is_directory y ≡ true = subst (λ (o : Option Node). IsDirectory o) there (laid p n child) in
        absurd (empty_list (keys_where t (is_child p)) (p ++ n ∷ []) (no_child (is_directory y) (is_bare t p) bare dir) (among_keys t (is_child p) (p ++ n ∷ []) child (name_child p n)))
    by_child (inr none) = by_rest r
      where
        by_rest : (r : Path) → is_some (at t (p ++ n ∷ r)) ≡ false
        by_rest [] = none
        by_rest (m ∷ r) = subst (λ q. is_some (at t q) ≡ false) (append_assoc p (n ∷ []) (m ∷ r)) (nothing_below t laid (p ++ n ∷ []) m r none)
