-- Lists of paths that ascend, and the first paths of them.
use Rattle.std.proofs.Common.{◌≡◌, ◌⊎◌, inl, inr, ◌↔◌, ℕ, zero, suc, Bool, true, false, cond, ◌&&◌, bytes_eq, List, [], ◌∷◌, ◌++◌, map, take, slice_get, Option, Some, None, is_some, refl, ap, sym, subst, ◌∙◌, T}
use Rattle.std.specs.declared.cmp.Ordering.{Ordering}
use Rattle.std.specs.declared.cmp.Ordering.TheVariants.{Less, Equal, Greater}
use Rattle.std.specs.Ordering.{ordering_then, ordering_reverse, is_gt, is_lt, is_eq, nat_cmp}
use Rattle.std.specs.Cmp.Lexicographic.{slice_cmp}
use Rattle.std.specs.FinMap as fin
use Rattle.std.specs.FinMap.{is_sorted, slice_cmp-IsAntisymmetric, nat_cmp-IsAntisymmetric}
use Rattle.std.specs.FinMap.Entries.{below_all}
use Rattle.std.specs.List.{filter}
use Rattle.std.proofs.lemmas.Bool.{false≢true}
use Rattle.std.proofs.lemmas.Option.{same_Some}
use Rattle.path_text.specs.Paths.{path_cmp, path_cmp_total, path_cmp-IsAntisymmetric, is_prefix}
use Rattle.namespace_model.specs.Nodes.{Node}
use Rattle.namespace_model.specs.Trees.{Path, Tree, keys_where}
use Rattle.namespace_model.specs.Pages.{is_above}
use Rattle.namespace_model.specs.Locality.{Among}
use Rattle.namespace_model.proofs.Lookups.{same_path}
use Rattle.namespace_model.proofs.Prefixes.{together, same_bytes}

-- ---- the order

abbrev pub Before : Path → Path → Type 0
Before p q = path_cmp p q ≡ Less

pub before_trans : (p q r : Path) → Before p q → Before q r → Before p r
before_trans p q r = path_cmp_total.trans p q r

pub before_itself : (p : Path) → Before p p → ⊥
before_itself p h = false≢true (ap is_eq (sym h) ∙ same_path p)

pub before_both : (p q : Path) → Before p q → Before q p → ⊥
before_both p q h k = before_itself p (before_trans p q p h k)

cases_of : (o : Ordering) → (o ≡ Less) ⊎ ((o ≡ Equal) ⊎ (o ≡ Greater))
cases_of Less = inl refl
cases_of Equal = inr (inl refl)
cases_of Greater = inr (inr refl)

reverse_less : (p q : Path) → path_cmp p q ≡ Greater → Before q p
reverse_less p q e = path_cmp_total.antisymm q p ∙ ap ordering_reverse e

pub before_tells : (p q : Path) → Before p q ⊎ ((p ≡ q) ⊎ Before q p)
before_tells p q = elim (cases_of (path_cmp p q)) [
  | inl e ↦ inl e
  | inr h ↦ elim h [ inl e ↦ inr (inl (path_cmp-IsAntisymmetric p q e)) | inr e ↦ inr (inr (reverse_less p q e)) ]
]

less_not_gt : (o : Ordering) → is_gt o ≡ true → o ≡ Less → ⊥
less_not_gt o h e = false≢true (ap is_gt (sym e) ∙ h)

-- the order of two paths with one first name
under_name : (n m : List ℕ) → slice_cmp nat_cmp n m ≡ Equal → (p q : Path) → is_gt (ordering_then (slice_cmp nat_cmp n m) (path_cmp p q)) ≡ is_gt (path_cmp p q)
under_name n m e p q = ap (λ o. is_gt (ordering_then o (path_cmp p q))) e

by_name : (n m : List ℕ) (p r token : Path) → is_gt (ordering_then (slice_cmp nat_cmp n m) (path_cmp p token)) ≡ false → is_gt (ordering_then (slice_cmp nat_cmp n m) (path_cmp (p ++ r) token)) ≡ true
    → (is_gt (path_cmp p token) ≡ false → is_gt (path_cmp (p ++ r) token) ≡ true → is_prefix p token ≡ true)
    → (slice_cmp nat_cmp n m ≡ Less) ⊎ ((slice_cmp nat_cmp n m ≡ Equal) ⊎ (slice_cmp nat_cmp n m ≡ Greater)) → is_prefix (n ∷ p) (m ∷ token) ≡ true
by_name n m p r token low high more (inl e) = absurd (false≢true (sym (ap (λ o. is_gt (ordering_then o (path_cmp (p ++ r) token))) e) ∙ high))
by_name n m p r token low high more (inr (inl e)) =
    let same : n ≡ m = slice_cmp-IsAntisymmetric nat_cmp-IsAntisymmetric n m e in
    together (ap (λ k. bytes_eq n k) (sym same) ∙ same_bytes n)
    (more (sym (under_name n m e p token) ∙ low) (sym (under_name n m e (p ++ r) token) ∙ high))
by_name n m p r token low high more (inr (inr e)) = absurd (false≢true (sym low ∙ ap (λ o. is_gt (ordering_then o (path_cmp p token))) e))

-- A path that isn't above the token, but has a path above the token below it, is a front of the token.
pub between : (p r token : Path) → is_above token p ≡ false → is_above token (p ++ r) ≡ true → is_prefix p token ≡ true
between [] r token low high = refl
between (n ∷ p) r [] low high = absurd (false≢true (sym low))
between (n ∷ p) r (m ∷ token) low high = by_name n m p r token low high (between p r token) (cases_of (slice_cmp nat_cmp n m))

-- ---- ascending lists

abbrev pub Ascends : List Path → Type 0
Ascends [] = Unit {0}
Ascends (p ∷ ps) = ((q : Path) → Among q ps → Before p q) × Ascends ps

lt_less : (o : Ordering) → T (is_lt o) → o ≡ Less
lt_less Less h = refl
lt_less Equal h = absurd h
lt_less Greater h = absurd h

halves : (a b : Bool) → T (a && b) → T a × T b
halves true b h = (tt, h)
halves false b h = absurd h

all_above : (p : Path) (es : List (Path × Node)) → T (below_all path_cmp p es) → (q : Path) → Among q (map (λ (e : Path × Node). e.0) es) → Before p q
all_above p [] h q k = absurd k
all_above p (e ∷ es) h q (inl same) = rw (same) (lt_less (path_cmp p e.0) (halves (is_lt (path_cmp p e.0)) (below_all path_cmp p es) h).0)
all_above p (e ∷ es) h q (inr k) = all_above p es (halves (is_lt (path_cmp p e.0)) (below_all path_cmp p es) h).1 q k

sorted_ascends : (es : List (Path × Node)) → T (is_sorted path_cmp es) → Ascends (map (λ (e : Path × Node). e.0) es)
sorted_ascends [] h = tt
sorted_ascends (e ∷ es) h =
    let parts = halves (below_all path_cmp e.0 es) (is_sorted path_cmp es) h in
    (all_above e.0 es parts.0, sorted_ascends es parts.1)

pub keys_ascend : (t : Tree) (test : Path → Bool) → Ascends (keys_where t test)
unfolding keys_where
keys_ascend t test = sorted_ascends (fin.entries (fin.retain_keys t test)) (fin.entries_sorted (fin.retain_keys t test))

-- ---- filters

among_if : (test : Path → Bool) (q p : Path) (ps : List Path) (b : Bool) → test p ≡ b → (Among q (filter test ps) → (test q ≡ true) × Among q ps)
    → Among q (cond b (p ∷ filter test ps) (filter test ps)) → (test q ≡ true) × Among q (p ∷ ps)
among_if test q p ps true e more (inl same) = (ap test same ∙ e, inl same)
among_if test q p ps true e more (inr k) = let rest = more k in (rest.0, inr rest.1)
among_if test q p ps false e more k = let rest = more k in (rest.0, inr rest.1)

pub among_filter : (test : Path → Bool) (q : Path) (ps : List Path) → Among q (filter test ps) → (test q ≡ true) × Among q ps
among_filter test q [] h = absurd h
among_filter test q (p ∷ ps) h = among_if test q p ps (test p) refl (among_filter test q ps) h

if_among : (test : Path → Bool) (q p : Path) (ps : List Path) (b : Bool) → test p ≡ b → test q ≡ true → (Among q ps → Among q (filter test ps))
    → (q ≡ p) ⊎ Among q ps → Among q (cond b (p ∷ filter test ps) (filter test ps))
if_among test q p ps true e passes more (inl same) = inl same
if_among test q p ps true e passes more (inr k) = inr (more k)
if_among test q p ps false e passes more (inl same) = absurd (false≢true (sym e ∙ sym (ap test same) ∙ passes))
if_among test q p ps false e passes more (inr k) = more k

pub filter_among : (test : Path → Bool) (q : Path) (ps : List Path) → test q ≡ true → Among q ps → Among q (filter test ps)
filter_among test q [] passes h = absurd h
filter_among test q (p ∷ ps) passes h = if_among test q p ps (test p) refl passes (filter_among test q ps passes) h

ascends_if : (test : Path → Bool) (p : Path) (ps : List Path) (b : Bool) → ((q : Path) → Among q ps → Before p q) → Ascends (filter test ps) → Ascends (cond b (p ∷ filter test ps) (filter test ps))
ascends_if test p ps true first rest = (λ q k. first q (among_filter test q ps k).1, rest)
ascends_if test p ps false first rest = rest

pub filter_ascends : (test : Path → Bool) (ps : List Path) → Ascends ps → Ascends (filter test ps)
filter_ascends test [] h = tt
filter_ascends test (p ∷ ps) h = ascends_if test p ps (test p) h.0 (filter_ascends test ps h.1)

-- ---- lists with the same members

-- the path does not stand behind the one at this place
abbrev pub IsUpTo : ℕ → List Path → Path → Type 0
IsUpTo n xs q = (z : Path) → slice_get xs n ≡ Some z → Before z q → ⊥

head_least : (x q : Path) (xs : List Path) → Ascends (x ∷ xs) → Among q (x ∷ xs) → Before q x → ⊥
head_least x q xs up (inl e) h = before_itself x (subst (λ p. Before p x) e h)
head_least x q xs up (inr k) h = before_both x q (up.0 q k) h

same_heads : (x y : Path) (xs ys : List Path) → Ascends (x ∷ xs) → Ascends (y ∷ ys) → Among x (y ∷ ys) → ((y ≡ x) ⊎ Before y x → Among y (x ∷ xs)) → x ≡ y
same_heads x y xs ys up_x up_y x_in y_in = elim (before_tells x y) [
  | inl h ↦ absurd (head_least y x ys up_y x_in h)
  | inr h ↦ elim h [ inl e ↦ e | inr k ↦ absurd (head_least x y xs up_x (y_in (inr k)) k) ]
]

not_none : (z : Path) → ◌≡◌ {A = Option Path} None (Some z) → ⊥
not_none z e = false≢true (ap is_some e)

same_some : (x z : Path) → ◌≡◌ {A = Option Path} (Some x) (Some z) → x ≡ z
same_some x z e = same_Some x z e

pub got_among : (n : ℕ) (z : Path) (xs : List Path) → slice_get xs n ≡ Some z → Among z xs
got_among n z [] e = absurd (not_none z e)
got_among zero z (x ∷ xs) e = inl (sym (same_some x z e))
got_among (suc n) z (x ∷ xs) e = inr (got_among n z xs e)

in_tail : (x q : Path) (xs : List Path) → Ascends (x ∷ xs) → Among q xs → q ≡ x → ⊥
in_tail x q xs up k e = before_itself x (subst (λ p. Before x p) e (up.0 q k))

one_way : (x y : Path) (xs ys : List Path) (q : Path) → Ascends (x ∷ xs) → x ≡ y → (Among q (x ∷ xs) → Among q (y ∷ ys)) → Among q xs → Among q ys
one_way x y xs ys q up heads to k = elim (to (inr k)) [ inl e ↦ absurd (in_tail x q xs up k (e ∙ sym heads)) | inr j ↦ j ]

tails : (x y : Path) (xs ys : List Path) (q : Path) → Ascends (x ∷ xs) → Ascends (y ∷ ys) → x ≡ y → (Among q (x ∷ xs) ↔ Among q (y ∷ ys)) → (Among q xs ↔ Among q ys)
tails x y xs ys q up_x up_y heads same = (one_way x y xs ys q up_x heads same.0, one_way y x ys xs q up_y (sym heads) same.1)

-- the head is up to each place
head_up_to : (n : ℕ) (x : Path) (xs : List Path) → Ascends (x ∷ xs) → IsUpTo n (x ∷ xs) x
head_up_to zero x xs up z e b = before_itself x (subst (λ y. Before y x) (sym (same_some x z e)) b)
head_up_to (suc n) x xs up z e b = before_both x z (up.0 z (got_among n z xs e)) b

-- what stands before something up to a place is up to it
pub up_to_before : (n : ℕ) (xs : List Path) (p q : Path) → Before p q → IsUpTo n xs q → IsUpTo n xs p
up_to_before n xs p q h is z e b = is z e (before_trans z p q b h)

-- Two ascending lists with the same members up to a place of the first one have the same first paths.
pub first_same : (n : ℕ) (xs ys : List Path) → Ascends xs → Ascends ys → ((q : Path) → IsUpTo n xs q → (Among q xs ↔ Among q ys)) → take (suc n) xs ≡ take (suc n) ys
first_same n [] [] up_x up_y same = refl
first_same n [] (y ∷ ys) up_x up_y same = absurd ((same y (λ z e b. not_none z e)).1 (inl refl))
first_same n (x ∷ xs) [] up_x up_y same = absurd ((same x (head_up_to n x xs up_x)).0 (inl refl))
first_same zero (x ∷ xs) (y ∷ ys) up_x up_y same =
    let here = head_up_to zero x xs up_x in
    let heads = same_heads x y xs ys up_x up_y ((same x here).0 (inl refl))
    (λ h. (same y (elim h [ inl e ↦ subst (λ p. IsUpTo zero (x ∷ xs) p) (sym e) here | inr b ↦ up_to_before zero (x ∷ xs) y x b here ])).1 (inl refl)) in
    ap (λ p. p ∷ []) heads
first_same (suc n) (x ∷ xs) (y ∷ ys) up_x up_y same =
    let here = head_up_to (suc n) x xs up_x in
    let heads = same_heads x y xs ys up_x up_y ((same x here).0 (inl refl))
    (λ h. (same y (elim h [ inl e ↦ subst (λ p. IsUpTo (suc n) (x ∷ xs) p) (sym e) here | inr b ↦ up_to_before (suc n) (x ∷ xs) y x b here ])).1 (inl refl)) in
    let rest = first_same n xs ys up_x.1 up_y.1 (λ q is. tails x y xs ys q up_x up_y heads (same q is)) in
    ap (λ p. p ∷ take (suc n) xs) heads ∙ ap (λ ps. y ∷ ps) rest

pub ascending_same : (xs ys : List Path) → Ascends xs → Ascends ys → ((q : Path) → (Among q xs ↔ Among q ys)) → xs ≡ ys
ascending_same [] [] up_x up_y same = refl
ascending_same [] (y ∷ ys) up_x up_y same = absurd ((same y).1 (inl refl))
ascending_same (x ∷ xs) [] up_x up_y same = absurd ((same x).0 (inl refl))
ascending_same (x ∷ xs) (y ∷ ys) up_x up_y same =
    let heads = same_heads x y xs ys up_x up_y ((same x).0 (inl refl)) (λ h. (same y).1 (inl refl)) in
    let rest = ascending_same xs ys up_x.1 up_y.1 (λ q. tails x y xs ys q up_x up_y heads (same q)) in
    ap (λ p. p ∷ xs) heads ∙ ap (λ ps. y ∷ ps) rest

pub among_take : (n : ℕ) (q : Path) (ps : List Path) → Among q (take n ps) → Among q ps
among_take zero q ps h = absurd h
among_take (suc n) q [] h = h
among_take (suc n) q (p ∷ ps) (inl e) = inl e
among_take (suc n) q (p ∷ ps) (inr h) = inr (among_take n q ps h)
