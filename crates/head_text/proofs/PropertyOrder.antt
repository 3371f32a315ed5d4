-- Properties in order: each name stands once, and two lists of the same properties are one.
use Rattle.std.proofs.Common.{◌≡◌, ℕ, zero, suc, ◌+◌, ◌≤◌, Bool, true, false, ◌&&◌, ◌||◌, cond, bytes_eq, IsTrue, T, List, [], ◌∷◌, ◌++◌, map, Some, None, refl, sym, ap, subst, ◌∙◌, arith}
use Rattle.std.specs.declared.cmp.Ordering.{Ordering}
use Rattle.std.specs.declared.cmp.Ordering.TheVariants.{Less, Equal, Greater}
use Rattle.std.specs.Ordering.{is_lt, is_eq, ordering_reverse, eq_by_cmp}
use Rattle.std.specs.Cmp.{tied_itself}
use Rattle.std.specs.Cmp.Lexicographic.{nat_list_cmp_total}
use Rattle.std.specs.FinMap.{find, put, is_sorted}
use Rattle.std.specs.FinMap.Entries.{below_all, is_sorted-put, same_entries}
use Rattle.std.specs.List.{sum_by, Contains}
use Rattle.std.specs.List.Sorted.{IsPermutation}
use Rattle.std.proofs.lemmas.Bool.{false≢true}
use Rattle.std.proofs.lemmas.List.Sums.{sum_by-cons, sum_by-append}
use Rattle.std.proofs.lemmas.List.Sorted.{sum_by-IsPermutation, Contains-permutation, IsPermutation-sym}
use Rattle.std.proofs.lemmas.Slice.Eq.{bytes_eq-Decides}
use Rattle.head_text.specs.Properties.{Property, name_cmp}
use Rattle.head_text.specs.PropertyTexts.{is_named}
use Rattle.head_text.proofs.PropertyLemmas.{same_name}

pub holds : (b : Bool) → IsTrue b → T b
holds b e = subst T (sym e) tt

pub is_true : (b : Bool) → T b → IsTrue b
is_true true h = refl
is_true false h = absurd h

front_holds : (a b : Bool) → T (a && b) → T a
front_holds true b p = tt
front_holds false b p = absurd p

back_holds : (a b : Bool) → T (a && b) → T b
back_holds true b p = p
back_holds false b p = absurd p

pub put_in_order : (k v : List ℕ) (ps : List Property) → IsTrue (is_sorted name_cmp ps) → IsTrue (is_sorted name_cmp (put name_cmp k v ps))
put_in_order k v ps h = is_true _ (is_sorted-put name_cmp nat_list_cmp_total k v ps (holds _ h))

-- ---- how often a name stands

abbrev one_if : List ℕ → Property → ℕ
one_if k p = cond (bytes_eq p.0 k) 1 0

abbrev pub count : List ℕ → List Property → ℕ
count k ps = sum_by (one_if k) ps

pub count-cons : (k : List ℕ) (p : Property) (ps : List Property) → count k (p ∷ ps) ≡ one_if k p + count k ps
count-cons k p ps = sum_by-cons (one_if k) p ps

pub named_counts : (k : List ℕ) (ps : List Property) → is_named k ps ≡ true → 1 ≤ count k ps
named_counts k [] = λ e. absurd (false≢true e)
named_counts k (p ∷ ps) =
    let here = count-cons k p ps in
    elim (bytes_eq p.0 k) as (λ b. count k (p ∷ ps) ≡ cond b 1 0 + count k ps → (b || is_named k ps) ≡ true → 1 ≤ count k (p ∷ ps)) [
      | true ↦ λ is _. omega (arith, is)
      | false ↦ λ is e. let rest = named_counts k ps e in omega (arith, is, rest)
    ] here

-- a name that stood before and stands again stands twice
pub counts_twice : (k v : List ℕ) (before after : List Property) → is_named k before ≡ true → 2 ≤ count k (before ++ (k, v) ∷ after)
counts_twice k v before after e =
    let first = named_counts k before e in
    let all = sum_by-append (one_if k) before ((k, v) ∷ after) in
    let next = count-cons k (k, v) after in
    let own : one_if k (k, v) ≡ 1 = ap (λ b. cond b 1 0) ((bytes_eq-Decides k k).1 refl) in
    omega (arith, first, all, next, own)

tie : (k : List ℕ) → name_cmp k k ≡ Equal
tie k = tied_itself nat_list_cmp_total k

below_none : (k : List ℕ) (ps : List Property) → T (below_all name_cmp k ps) → count k ps ≡ 0
below_none k [] h = refl
below_none k (p ∷ ps) h =
    let here = count-cons k p ps in
    let rest = below_none k ps (back_holds (is_lt (name_cmp k p.0)) _ h) in
    elim (bytes_eq p.0 k) as (λ b. bytes_eq p.0 k ≡ b → count k (p ∷ ps) ≡ cond b 1 0 + count k ps → count k (p ∷ ps) ≡ 0) [
      | true ↦ λ same _.
          let own : name_cmp k p.0 ≡ Equal = ap (name_cmp k) ((bytes_eq-Decides p.0 k).0 same) ∙ tie k in
          absurd (subst (λ o. T (is_lt o)) own (front_holds (is_lt (name_cmp k p.0)) _ h))
      | false ↦ λ _ is. omega (arith, is, rest)
    ] refl here

pub sorted_once : (ps : List Property) → T (is_sorted name_cmp ps) → (k : List ℕ) → count k ps ≤ 1
sorted_once [] h k = omega arith
sorted_once (p ∷ ps) h k =
    let here = count-cons k p ps in
    let rest = sorted_once ps (back_holds (below_all name_cmp p.0 ps) _ h) k in
    elim (bytes_eq p.0 k) as (λ b. bytes_eq p.0 k ≡ b → count k (p ∷ ps) ≡ cond b 1 0 + count k ps → count k (p ∷ ps) ≤ 1) [
      | true ↦ λ same is.
          let none : count k ps ≡ 0 = below_none k ps (subst (λ n. T (below_all name_cmp n ps)) ((bytes_eq-Decides p.0 k).0 same) (front_holds (below_all name_cmp p.0 ps) _ h)) in
          omega (arith, is, none)
      | false ↦ λ _ is. omega (arith, is, rest)
    ] refl here

pub permuted_once : (ps qs : List Property) → IsPermutation ps qs → IsTrue (is_sorted name_cmp qs) → (k : List ℕ) → count k ps ≤ 1
permuted_once ps qs moved h k =
    let same = sum_by-IsPermutation (one_if k) ps qs moved in
    let once = sorted_once qs (holds _ h) k in
    omega (arith, same, once)

-- ---- what is found is there, and what is there is found

Equal-from : (o : Ordering) → is_eq o ≡ true → o ≡ Equal
Equal-from Less e = absurd (false≢true e)
Equal-from Equal e = refl
Equal-from Greater e = absurd (false≢true e)

Less-from : (o : Ordering) → T (is_lt o) → o ≡ Less
Less-from Less h = refl
Less-from Equal h = absurd h
Less-from Greater h = absurd h

found_there : (k v : List ℕ) (ps : List Property) → find name_cmp k ps ≡ Some v → Contains ps (k, v)
found_there k v [] = λ e. (cc)
found_there k v (p ∷ ps) =
    elim (eq_by_cmp name_cmp k p.0) as (λ b. eq_by_cmp name_cmp k p.0 ≡ b → cond b (Some p.1) (find name_cmp k ps) ≡ Some v → Contains (p ∷ ps) (k, v)) [
      | true ↦ λ is e.
          let name : p.0 ≡ k = sym (same_name k p.0 (Equal-from _ is)) in
          let value : p.1 ≡ v = (cc) in
          (0, omega arith, λ i. (name i, value i))
      | false ↦ λ _ e. let there = found_there k v ps e in (suc there.0, omega (arith, there.1), there.2)
    ] refl

below_there : (n k v : List ℕ) (ps : List Property) → T (below_all name_cmp n ps) → Contains ps (k, v) → name_cmp n k ≡ Less
below_there n k v [] h there = absurd (omega (arith, there.1))
below_there n k v (p ∷ ps) h (zero, within, is) = ap (λ q. name_cmp n q.0) (sym is) ∙ Less-from _ (front_holds (is_lt (name_cmp n p.0)) _ h)
below_there n k v (p ∷ ps) h (suc i, within, is) = below_there n k v ps (back_holds (is_lt (name_cmp n p.0)) _ h) (i, omega (arith, within), is)

there_found : (k v : List ℕ) (ps : List Property) → T (is_sorted name_cmp ps) → Contains ps (k, v) → find name_cmp k ps ≡ Some v
there_found k v [] h there = absurd (omega (arith, there.1))
there_found k v (p ∷ ps) h (zero, within, is) =
    ap (λ q. find name_cmp k (q ∷ ps)) is ∙ ap (λ o. cond (is_eq o) (Some v) (find name_cmp k ps)) (tie k)
there_found k v (p ∷ ps) h (suc i, within, is) =
    let there : Contains ps (k, v) = (i, omega (arith, within), is) in
    let less = below_there p.0 k v ps (front_holds (below_all name_cmp p.0 ps) _ h) there in
    let more : name_cmp k p.0 ≡ Greater = nat_list_cmp_total.antisymm k p.0 ∙ ap ordering_reverse less in
    ap (λ o. cond (is_eq o) (Some p.1) (find name_cmp k ps)) more ∙ there_found k v ps (back_holds (below_all name_cmp p.0 ps) _ h) there

agree : (ps qs : List Property) → IsPermutation ps qs → T (is_sorted name_cmp ps) → T (is_sorted name_cmp qs) → (k : List ℕ) → find name_cmp k ps ≡ find name_cmp k qs
agree ps qs moved g h k =
    elim (find name_cmp k ps) as (λ o. find name_cmp k ps ≡ o → o ≡ find name_cmp k qs) [
      | Some v ↦ λ is. sym (there_found k v qs h (Contains-permutation ps qs (k, v) moved (found_there k v ps is)))
      | None ↦ λ none. elim (find name_cmp k qs) as (λ o. find name_cmp k qs ≡ o → None ≡ o) [
        | None ↦ λ _. refl
        | Some v ↦ λ is. sym none ∙ there_found k v ps g (Contains-permutation qs ps (k, v) (IsPermutation-sym ps qs moved) (found_there k v qs is))
      ] refl
    ] refl

-- two lists of the same properties in order are one
pub same_in_order : (ps qs : List Property) → IsPermutation ps qs → IsTrue (is_sorted name_cmp ps) → IsTrue (is_sorted name_cmp qs) → ps ≡ qs
same_in_order ps qs moved g h =
    same_entries name_cmp nat_list_cmp_total same_name ps qs (holds _ g) (holds _ h) (agree ps qs moved (holds _ g) (holds _ h))

-- ---- names

pub named_there : (k : List ℕ) (ps : List Property) → is_named k ps ≡ true → Contains (map (λ p. p.0) ps) k
named_there k [] = λ e. absurd (false≢true e)
named_there k (p ∷ ps) =
    elim (bytes_eq p.0 k) as (λ b. bytes_eq p.0 k ≡ b → (b || is_named k ps) ≡ true → Contains (map (λ p. p.0) (p ∷ ps)) k) [
      | true ↦ λ same _. (0, omega arith, (bytes_eq-Decides p.0 k).0 same)
      | false ↦ λ _ e. let there = named_there k ps e in (suc there.0, omega (arith, there.1), there.2)
    ] refl

pub there_named : (k : List ℕ) (ps : List Property) → Contains (map (λ p. p.0) ps) k → is_named k ps ≡ true
there_named k [] there = absurd (omega (arith, there.1))
there_named k (p ∷ ps) (zero, within, is) = ap (λ b. b || is_named k ps) ((bytes_eq-Decides p.0 k).1 is)
there_named k (p ∷ ps) (suc i, within, is) = or_true (bytes_eq p.0 k) (there_named k ps (i, omega (arith, within), is))
  where
    or_true : (b : Bool) {c : Bool} → c ≡ true → (b || c) ≡ true
    or_true true e = refl
    or_true false e = e
