-- The first path behind a token, by what stands along the token.
use Rattle.std.proofs.Common.{◌≡◌, ◌⊎◌, inl, inr, true, false, ◌&&◌, bytes_eq, List, [], ◌∷◌, ◌++◌, ℕ, Some, is_some, refl, ap, sym, subst, ◌∙◌, append_assoc, append-nil}
use Rattle.std.proofs.lemmas.Bool.{false≢true, cases_Bool}
use Rattle.std.specs.declared.cmp.Ordering.{Ordering}
use Rattle.std.specs.declared.cmp.Ordering.TheVariants.{Less, Equal, Greater}
use Rattle.std.specs.Ordering.{ordering_then, ordering_reverse, is_eq, is_gt, nat_cmp}
use Rattle.std.specs.Cmp.{tied_itself}
use Rattle.std.specs.Cmp.Lexicographic.{slice_cmp, nat_list_cmp_total}
use Rattle.std.specs.FinMap.{slice_cmp-IsAntisymmetric, nat_cmp-IsAntisymmetric}
use Rattle.path_text.specs.Paths.{path_cmp, is_prefix}
use Rattle.namespace_model.specs.Locality.{Among}
use Rattle.path_order.specs.Cursors.{NoneBehind, IsNext}
use Rattle.namespace_model.specs.Pages.{is_above, above}
use Rattle.namespace_model.specs.Trees.{Path, Tree, at, IsLaid}
use Rattle.namespace_model.proofs.Alikeness.{nothing_below}
use Rattle.namespace_model.proofs.PageLaws.{above_before, before_above}
use Rattle.namespace_model.proofs.PageOrder.{Before, before_trans, before_itself, Ascends, ascending_same, among_filter, filter_among, filter_ascends}
use Rattle.namespace_model.proofs.Prefixes.{same_bytes, behind_front}

-- ---- the order of names and of paths with one front

abbrev pub by_bytes : List ℕ → List ℕ → Ordering
by_bytes = slice_cmp nat_cmp

pub less_is_not : Less ≡ Equal → ⊥
less_is_not e = false≢true (ap is_eq e)

pub less_no_greater : Less ≡ Greater → ⊥
less_no_greater e = false≢true (ap is_gt e)

pub names_tell : (n m : List ℕ) → (by_bytes n m ≡ Less) ⊎ ((n ≡ m) ⊎ (by_bytes n m ≡ Greater))
names_tell n m = by_order (by_bytes n m) refl
  where
    by_order : (o : Ordering) → by_bytes n m ≡ o → (by_bytes n m ≡ Less) ⊎ ((n ≡ m) ⊎ (by_bytes n m ≡ Greater))
    by_order Less e = inl e
    by_order Equal e = inr (inl (slice_cmp-IsAntisymmetric nat_cmp-IsAntisymmetric n m e))
    by_order Greater e = inr (inr e)

name_itself : (n : List ℕ) → by_bytes n n ≡ Equal
name_itself n = tied_itself nat_list_cmp_total n

same_front : (p a b : Path) → path_cmp (p ++ a) (p ++ b) ≡ path_cmp a b
same_front [] a b = refl
same_front (n ∷ p) a b = ap (λ o. ordering_then o (path_cmp (p ++ a) (p ++ b))) (name_itself n) ∙ same_front p a b

-- what is below a path stands behind it
pub front_first : (p : Path) (n : List ℕ) (r : Path) → Before p (p ++ n ∷ r)
front_first p n r = ap (λ q. path_cmp q (p ++ n ∷ r)) (sym (append-nil p)) ∙ same_front p [] (n ∷ r)

not_before_front : (p : Path) (n : List ℕ) (r : Path) → Before (p ++ n ∷ r) p → ⊥
not_before_front p n r h = before_itself p (before_trans p (p ++ n ∷ r) p (front_first p n r) h)

-- a path that doesn't begin with p stands on one side of all that do
pub apart_same : (p x y r : Path) → is_prefix p r ≡ false → Before (p ++ x) r → Before (p ++ y) r
apart_same [] x y r e h = absurd (false≢true (sym e))
apart_same (n ∷ p) x y [] e h = absurd (less_no_greater (sym h))
apart_same (n ∷ p) x y (m ∷ r) e h = elim (names_tell n m) [
  | inl less ↦ ap (λ o. ordering_then o (path_cmp (p ++ y) r)) less
  | inr other ↦ elim other [
    | inl same ↦
        let tied : by_bytes n m ≡ Equal = ap (by_bytes n) (sym same) ∙ name_itself n in
        ap (λ o. ordering_then o (path_cmp (p ++ y) r)) tied
        ∙ apart_same p x y r (sym (ap (λ b. b && is_prefix p r) (ap (bytes_eq n) (sym same) ∙ same_bytes n)) ∙ e) (sym (ap (λ o. ordering_then o (path_cmp (p ++ x) r)) tied) ∙ h)
    | inr more ↦ absurd (less_no_greater (sym h ∙ ap (λ o. ordering_then o (path_cmp (p ++ x) r)) more))
  ]
]

-- ---- going up along the token

-- no name of p behind n leads anywhere
abbrev pub NoNameBehind : Tree → Path → List ℕ → Type 0
NoNameBehind t p n = (m : List ℕ) → by_bytes n m ≡ Less → is_some (at t (p ++ m ∷ [])) ≡ false

-- m is the first name of p behind n that leads somewhere
pub record IsNextName (t : Tree) (p : Path) (n m : List ℕ) : Type 0 where
  pub there : is_some (at t (p ++ m ∷ [])) ≡ true
  pub behind : by_bytes n m ≡ Less
  pub first : (k : List ℕ) → by_bytes n k ≡ Less → is_some (at t (p ++ k ∷ [])) ≡ true → by_bytes k m ≡ Less → ⊥

-- m is the first name of p
pub record IsFirstName (t : Tree) (p : Path) (m : List ℕ) : Type 0 where
  pub there : is_some (at t (p ++ m ∷ [])) ≡ true
  pub first : (k : List ℕ) → is_some (at t (p ++ k ∷ [])) ≡ true → by_bytes k m ≡ Less → ⊥

-- what is above a path that is there is there
pub front_there : (t : Tree) → IsLaid t → (p : Path) (m : List ℕ) (s : Path) → is_some (at t (p ++ m ∷ s)) ≡ true → is_some (at t (p ++ m ∷ [])) ≡ true
front_there t laid p m [] h = h
front_there t laid p m (k ∷ s) h = elim (cases_Bool (is_some (at t (p ++ m ∷ [])))) [
  | inl e ↦ e
  | inr e ↦ absurd (false≢true (sym (ap (λ q. is_some (at t q)) (sym (append_assoc p (m ∷ []) (k ∷ s))) ∙ nothing_below t laid (p ++ m ∷ []) k s e) ∙ h))
]

-- two paths below p, by their names there
pub by_names : (p : Path) (n : List ℕ) (r : Path) (m : List ℕ) (s : Path) (o : Ordering) → by_bytes n m ≡ o → path_cmp (p ++ n ∷ r) (p ++ m ∷ s) ≡ ordering_then o (path_cmp r s)
by_names p n r m s o e = same_front p (n ∷ r) (m ∷ s) ∙ ap (λ k. ordering_then k (path_cmp r s)) e

not_before_none : (r : Path) → path_cmp r [] ≡ Less → ⊥
not_before_none [] h = less_is_not (sym h)
not_before_none (n ∷ r) h = less_no_greater (sym h)

-- by the same name what is behind the token is deeper
same_name : (t : Tree) (p : Path) (n : List ℕ) (rest s : Path) → NoneBehind t (p ++ n ∷ rest) (p ++ n ∷ []) → is_some (at t (p ++ n ∷ s)) ≡ true → Before (p ++ n ∷ rest) (p ++ n ∷ s) → ⊥
same_name t p n rest [] deeper there h = not_before_none rest (sym (by_names p n rest n [] Equal (name_itself n)) ∙ h)
same_name t p n rest (k ∷ s) deeper there h =
    let same : p ++ n ∷ k ∷ s ≡ (p ++ n ∷ []) ++ k ∷ s = sym (append_assoc p (n ∷ []) (k ∷ s)) in
    deeper k s (ap (λ q. is_some (at t q)) (sym same) ∙ there) (subst (λ q. Before (p ++ n ∷ rest) q) same h)

pub none_up : (t : Tree) → IsLaid t → (p : Path) (n : List ℕ) (rest : Path) → NoNameBehind t p n → NoneBehind t (p ++ n ∷ rest) (p ++ n ∷ []) → NoneBehind t (p ++ n ∷ rest) p
none_up t laid p n rest none deeper m s there h = elim (names_tell n m) [
  | inl less ↦ false≢true (sym (none m less) ∙ front_there t laid p m s there)
  | inr other ↦ elim other [
    | inl same ↦ same_name t p n rest s deeper (ap (λ k. is_some (at t (p ++ k ∷ s))) same ∙ there) (subst (λ k. Before (p ++ n ∷ rest) (p ++ k ∷ s)) (sym same) h)
    | inr more ↦ less_no_greater (sym h ∙ by_names p n rest m s Greater more)
  ]
]

-- ---- the next path

-- a path of this name or a later one below p is this one, or behind it
pub behind_name : (p : Path) (m k : List ℕ) (s : Path) → (by_bytes k m ≡ Less → ⊥) → (p ++ k ∷ s ≡ p ++ m ∷ []) ⊎ Before (p ++ m ∷ []) (p ++ k ∷ s)
behind_name p m k s not_less = elim (names_tell m k) [
  | inl less ↦ inr (by_names p m [] k s Less less)
  | inr other ↦ elim other [
    | inl same ↦ by_rest s same
    | inr more ↦ absurd (not_less (turned m k more))
  ]
]
  where
    turned : (a b : List ℕ) → by_bytes a b ≡ Greater → by_bytes b a ≡ Less
    turned a b e = nat_list_cmp_total.antisymm b a ∙ ap ordering_reverse e

    by_rest : (r : Path) → m ≡ k → (p ++ k ∷ r ≡ p ++ m ∷ []) ⊎ Before (p ++ m ∷ []) (p ++ k ∷ r)
    by_rest [] same = inl (ap (λ j. p ++ j ∷ []) (sym same))
    by_rest (j ∷ r) same = inr (by_names p m [] k (j ∷ r) Equal (ap (by_bytes m) (sym same) ∙ name_itself m))

-- behind a token below p, where nothing is left below its own name there: the next name
pub next_over : (t : Tree) → IsLaid t → (p : Path) (n : List ℕ) (rest : Path) (m : List ℕ) → NoneBehind t (p ++ n ∷ rest) (p ++ n ∷ []) → IsNextName t p n m → IsNext t (p ++ n ∷ rest) (p ++ m ∷ [])
next_over t laid p n rest m deeper next = record {
  there = next.there;
  behind = by_names p n rest m [] Less next.behind;
  first = λ r there h. elim (cases_Bool (is_prefix p r)) [
    | inl front ↦ let tail = behind_front p r front in
        subst (λ q. (q ≡ p ++ m ∷ []) ⊎ Before (p ++ m ∷ []) q) (sym tail.1) (by_tail tail.0 (ap (λ q. is_some (at t q)) (sym tail.1) ∙ there) (subst (λ q. Before (p ++ n ∷ rest) q) tail.1 h))
    | inr apart ↦ inr (apart_same p (n ∷ rest) (m ∷ []) r apart h)
  ];
}
  where
    by_tail : (s : Path) → is_some (at t (p ++ s)) ≡ true → Before (p ++ n ∷ rest) (p ++ s) → (p ++ s ≡ p ++ m ∷ []) ⊎ Before (p ++ m ∷ []) (p ++ s)
    by_tail [] there h = absurd (not_before_front p n rest (subst (λ q. Before (p ++ n ∷ rest) q) (append-nil p) h))
    by_tail (k ∷ s) there h = elim (names_tell n k) [
      | inl less ↦ behind_name p m k s (next.first k less (front_there t laid p k s there))
      | inr other ↦ elim other [
        | inl same ↦ absurd (same_name t p n rest s deeper (ap (λ j. is_some (at t (p ++ j ∷ s))) same ∙ there) (subst (λ j. Before (p ++ n ∷ rest) (p ++ j ∷ s)) (sym same) h))
        | inr more ↦ absurd (less_no_greater (sym h ∙ by_names p n rest k s Greater more))
      ]
    ]

-- behind a token that has something below it: the first name there
pub next_below : (t : Tree) → IsLaid t → (p : Path) (m : List ℕ) → IsFirstName t p m → IsNext t p (p ++ m ∷ [])
next_below t laid p m next = record {
  there = next.there;
  behind = front_first p m [];
  first = λ r there h. elim (cases_Bool (is_prefix p r)) [
    | inl front ↦ let tail = behind_front p r front in
        subst (λ q. (q ≡ p ++ m ∷ []) ⊎ Before (p ++ m ∷ []) q) (sym tail.1) (by_tail tail.0 (ap (λ q. is_some (at t q)) (sym tail.1) ∙ there) (subst (λ q. Before p q) tail.1 h))
    | inr apart ↦ inr (apart_same p [] (m ∷ []) r apart (subst (λ q. Before q r) (sym (append-nil p)) h))
  ];
}
  where
    by_tail : (s : Path) → is_some (at t (p ++ s)) ≡ true → Before p (p ++ s) → (p ++ s ≡ p ++ m ∷ []) ⊎ Before (p ++ m ∷ []) (p ++ s)
    by_tail [] there h = absurd (before_itself p (subst (λ q. Before p q) (append-nil p) h))
    by_tail (k ∷ s) there h = behind_name p m k s (next.first k (front_there t laid p k s there))

-- ---- in a list

-- of an ascending list, what is behind a token is its next path and what is behind that
pub next_of : (token q : Path) (ps : List Path) → Ascends ps → Among q ps → Before token q → ((r : Path) → Among r ps → Before token r → (r ≡ q) ⊎ Before q r) → above (Some token) ps ≡ q ∷ above (Some q) ps
next_of token q ps up here behind first =
    ascending_same (above (Some token) ps) (q ∷ above (Some q) ps) (filter_ascends (is_above token) ps up)
    ((λ r h. above_before q r (among_filter (is_above q) r ps h).0), filter_ascends (is_above q) ps up)
    (λ r. (
      λ h. let k = among_filter (is_above token) r ps h in elim (first r k.1 (above_before token r k.0)) [
        | inl same ↦ inl same
        | inr b ↦ inr (filter_among (is_above q) r ps (before_above q r b) k.1)
      ],
      λ h. elim h [
        | inl same ↦ subst (λ z. Among z (above (Some token) ps)) (sym same) (filter_among (is_above token) q ps (before_above token q behind) here)
        | inr k ↦ let j = among_filter (is_above q) r ps k in filter_among (is_above token) r ps (before_above token r (before_trans token q r behind (above_before q r j.0))) j.1
      ],
    ))

-- and where none is behind it, nothing
pub none_of : (token : Path) (ps : List Path) → ((r : Path) → Among r ps → Before token r → ⊥) → above (Some token) ps ≡ []
none_of token ps none = by_list (above (Some token) ps) (λ r h. let k = among_filter (is_above token) r ps h in none r k.1 (above_before token r k.0))
  where
    by_list : (xs : List Path) → ((r : Path) → Among r xs → ⊥) → xs ≡ []
    by_list [] h = refl
    by_list (x ∷ xs) h = absurd (h x (inl refl))
