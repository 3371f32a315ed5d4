-- The nodes of paths that ascend have ids of which none comes twice.
use Rattle.std.proofs.Common.{◌≡◌, ◌⊎◌, inl, inr, ℕ, zero, suc, ◌==◌, Bool, true, false, ◌&&◌, ◌||◌, List, [], ◌∷◌, ◌++◌, take, Option, Some, None, refl, sym, ap, subst, ◌∙◌, append-nil}
use Rattle.std.proofs.lemmas.Bool.{false≢true, cases_Bool}
use Rattle.std.specs.Cmp.{unsigned_Decides}
use Rattle.path_text.specs.Paths.{is_prefix}
use Rattle.namespace_model.specs.Locality.{Among}
use Rattle.namespace_model.specs.Pages.{is_above, above, on_the_way}
use Rattle.namespace_model.specs.Trees.{Path, Tree, is_below}
use Rattle.namespace_model.proofs.Lookups.{keys_among}
use Rattle.namespace_model.proofs.PageLaws.{above_before, above_ascends}
use Rattle.namespace_model.proofs.PageOrder.{Before, Ascends, before_itself, before_trans, among_filter, among_take, keys_ascend}
use Rattle.namespace_model.proofs.Prefixes.{both, behind_front}
use Rattle.inode_tree.specs.Parts.{Parts, follow}
use Rattle.inode_tree.specs.Promises.{is_one_of}
use Rattle.inode_tree.specs.Stands.{Stands}
use Rattle.path_order.specs.declared.cursor.Seen.{Seen}
use Rattle.path_order.specs.PagesBelow.{below, AreNodesOf, AreApart, ids_in}
use Rattle.path_order.proofs.NextPath.{front_first}

-- ---- lists that ascend

take_ascends : (n : ℕ) (ps : List Path) → Ascends ps → Ascends (take n ps)
take_ascends zero ps up = tt
take_ascends (suc n) [] up = tt
take_ascends (suc n) (p ∷ ps) up = ((λ q h. up.0 q (among_take n q ps h)), take_ascends n ps up.1)

among_either : (q : Path) (xs ys : List Path) → Among q (xs ++ ys) → Among q xs ⊎ Among q ys
among_either q [] ys h = inr h
among_either q (x ∷ xs) ys (inl e) = inl (inl e)
among_either q (x ∷ xs) ys (inr h) = elim (among_either q xs ys h) [ inl k ↦ inl (inr k) | inr k ↦ inr k ]

append_ascends : (xs ys : List Path) → Ascends xs → Ascends ys → ((x y : Path) → Among x xs → Among y ys → Before x y) → Ascends (xs ++ ys)
append_ascends [] ys up more apart = more
append_ascends (x ∷ xs) ys up more apart = (
  (λ q h. elim (among_either q xs ys h) [ inl k ↦ up.0 q k | inr k ↦ apart x q (inl refl) k ]),
  append_ascends xs ys up.1 more (λ a b h k. apart a b (inr h) k),
)

-- what is on the way to a token stands before all that is behind it
front_before : (q token r : Path) → is_prefix q token ≡ true → Before token r → Before q r
front_before q token r front behind = by_rest (behind_front q token front).0 (behind_front q token front).1
  where
    by_rest : (s : Path) → token ≡ q ++ s → Before q r
    by_rest [] e = subst (λ k. Before k r) (e ∙ append-nil q) behind
    by_rest (n ∷ s) e = before_trans q token r (subst (λ k. Before q k) (sym e) (front_first q n s)) behind

pub way_and_page : (t : Tree) (dir : Path) (token : Option Path) (max : ℕ) → Ascends (on_the_way t (is_below dir) token ++ take max (above token (below t dir)))
way_and_page t dir None max = take_ascends max (below t dir) (keys_ascend t (is_below dir))
way_and_page t dir (Some token) max =
    append_ascends (on_the_way t (is_below dir) (Some token)) (take max (above (Some token) (below t dir)))
    (keys_ascend t (λ q. is_below dir q && is_prefix q token))
    (take_ascends max (above (Some token) (below t dir)) (above_ascends (Some token) (below t dir) (keys_ascend t (is_below dir))))
    (λ q r h k. front_before q token r
    (both (is_below dir q) (is_prefix q token) (keys_among t (λ p. is_below dir p && is_prefix p token) q h).0).1
    (above_before token r (among_filter (is_above token) r (below t dir) (among_take max r (above (Some token) (below t dir)) k)).0))

pub page_ascends : (t : Tree) (dir : Path) (token : Option Path) (max : ℕ) → Ascends (take max (above token (below t dir)))
page_ascends t dir token max = take_ascends max (above token (below t dir)) (above_ascends token (below t dir) (keys_ascend t (is_below dir)))

-- ---- ids

module _ (parts : Parts) (t : Tree) (stands : Stands parts t) where
  -- an id among those of nodes is that of one of their paths
  pub id_of_path : (paths : List Path) (seen : List Seen) (id : ℕ) → AreNodesOf parts t paths seen → is_one_of id (ids_in seen) ≡ true → (q : Path) × (Among q paths × (follow parts 0 q ≡ Some id))
  id_of_path [] [] id are h = absurd (false≢true h)
  id_of_path [] (s ∷ seen) id are h = absurd are
  id_of_path (q ∷ paths) [] id are h = absurd are
  id_of_path (q ∷ paths) (s ∷ seen) id are h = by_test (s.id.0 == id) refl h (id_of_path paths seen id are.1)
    where
      by_test : (b : Bool) → (s.id.0 == id) ≡ b → (b || is_one_of id (ids_in seen)) ≡ true → (is_one_of id (ids_in seen) ≡ true → (r : Path) × (Among r paths × (follow parts 0 r ≡ Some id)))
          → (r : Path) × (Among r (q ∷ paths) × (follow parts 0 r ≡ Some id))
      by_test true e k more = (q, (inl refl, are.0.leads ∙ ap Some ((unsigned_Decides s.id.0 id).0 e)))
      by_test false e k more = let other = more k in (other.0, (inr other.1.0, other.1.1))

  pub nodes_apart : (paths : List Path) (seen : List Seen) → Ascends paths → AreNodesOf parts t paths seen → AreApart (ids_in seen)
  nodes_apart [] [] up are = tt
  nodes_apart [] (s ∷ seen) up are = absurd are
  nodes_apart (q ∷ paths) [] up are = absurd are
  nodes_apart (q ∷ paths) (s ∷ seen) up are = (
    elim (cases_Bool (is_one_of s.id.0 (ids_in seen))) [
      | inl e ↦
          let other = id_of_path paths seen s.id.0 are.1 e in
          absurd (before_itself q (subst (λ r. Before q r) (stands.once other.0 q s.id.0 other.1.1 are.0.leads) (up.0 other.0 other.1.0)))
      | inr e ↦ e
    ],
    nodes_apart paths seen up.1 are.1,
  )

  nodes_append : (ps qs : List Path) (seen more : List Seen) → AreNodesOf parts t ps seen → AreNodesOf parts t qs more → AreNodesOf parts t (ps ++ qs) (seen ++ more)
  nodes_append [] qs [] more are rest = rest
  nodes_append [] qs (s ∷ seen) more are rest = absurd are
  nodes_append (p ∷ ps) qs [] more are rest = absurd are
  nodes_append (p ∷ ps) qs (s ∷ seen) more are rest = (are.0, nodes_append ps qs seen more are.1 rest)

  -- the nodes of a page
  pub page_apart : (dir : Path) (token : Option Path) (max : ℕ) (paths : List Path) (seen : List Seen) → paths ≡ take max (above token (below t dir)) → AreNodesOf parts t paths seen → AreApart (ids_in seen)
  page_apart dir token max paths seen is are = nodes_apart paths seen (subst Ascends (sym is) (page_ascends t dir token max)) are

  -- those of the way to its token with them
  pub listing_apart : (dir : Path) (token : Option Path) (max : ℕ) (paths : List Path) (way seen : List Seen) → paths ≡ take max (above token (below t dir))
      → AreNodesOf parts t (on_the_way t (is_below dir) token) way → AreNodesOf parts t paths seen → AreApart (ids_in (way ++ seen))
  listing_apart dir token max paths way seen is on are =
      nodes_apart (on_the_way t (is_below dir) token ++ paths) (way ++ seen) (subst (λ ps. Ascends (on_the_way t (is_below dir) token ++ ps)) (sym is) (way_and_page t dir token max))
      (nodes_append (on_the_way t (is_below dir) token) paths way seen on are)
