-- Pages of the paths below a directory, on two maps that are alike where the page is read.
use Rattle.std.proofs.Common.{◌≡◌, ◌⊎◌, inl, inr, ℕ, zero, suc, ◌+◌, Bool, true, false, ◌&&◌, nat_lt, List, [], ◌∷◌, ◌++◌, length, take, Option, Some, None, is_some, refl, ap, sym, subst, ◌∙◌, append_assoc, length-take, arith}
use Rattle.std.proofs.lemmas.Bool.{false≢true, cases_Bool}
use Rattle.std.proofs.lemmas.Bool.Decides.{nat_tests}
use Rattle.std.specs.List.{filter}
use Rattle.path_text.specs.Paths.{is_prefix}
use Rattle.path_text.proofs.LawLemmas.{stands_before}
use Rattle.namespace_model.specs.Trees.{Path, Tree, at, keys_where, is_below, IsLaid}
use Rattle.namespace_model.specs.Pages.{is_above, above, page_of, on_the_way}
use Rattle.namespace_model.specs.Locality.{Among, Alike}
use Rattle.namespace_model.proofs.Lookups.{among_keys, keys_among, keys_same}
use Rattle.namespace_model.proofs.Prefixes.{both, together, behind_front, front_of_append, length_append}
use Rattle.namespace_model.proofs.Alikeness.{shown_down}
use Rattle.namespace_model.proofs.PageOrder.{Before, before_trans, between, Ascends, keys_ascend, among_filter, filter_among, filter_ascends, IsUpTo, first_same, ascending_same}

-- ---- what stands behind a token

-- a path is behind the token; each one is where there is none
abbrev pub is_over : Option Path → Path → Bool
is_over None q = true
is_over (Some token) q = is_above token q

-- what passes a test and is behind the token
abbrev pub over_test : (Path → Bool) → Option Path → Path → Bool
over_test test token q = test q && is_over token q

pub above_keys : (t : Tree) (test : Path → Bool) (token : Option Path) → above token (keys_where t test) ≡ keys_where t (over_test test token)
above_keys t test None =
    ascending_same (keys_where t test) (keys_where t (over_test test None)) (keys_ascend t test) (keys_ascend t (over_test test None))
    (λ q. (
      λ h. let k = keys_among t test q h in among_keys t (over_test test None) q k.1 (together k.0 refl),
      λ h. let k = keys_among t (over_test test None) q h in among_keys t test q k.1 (both _ _ k.0).0,
    ))
above_keys t test (Some token) =
    ascending_same (filter (is_above token) (keys_where t test)) (keys_where t (over_test test (Some token))) (filter_ascends (is_above token) (keys_where t test) (keys_ascend t test)) (keys_ascend t (over_test test (Some token)))
    (λ q. (
      λ h. let f = among_filter (is_above token) q (keys_where t test) h in let k = keys_among t test q f.1 in among_keys t (over_test test (Some token)) q k.1 (together k.0 f.0),
      λ h. let k = keys_among t (over_test test (Some token)) q h in let parts = both _ _ k.0 in filter_among (is_above token) q (keys_where t test) parts.1 (among_keys t test q k.1 parts.0),
    ))

-- ---- pages by their first paths

pub take_less : (n : ℕ) (xs : List Path) → take n xs ≡ take n (take (suc n) xs)
take_less zero xs = refl
take_less (suc n) [] = refl
take_less (suc n) (x ∷ xs) = ap (λ ps. x ∷ ps) (take_less n xs)

more_left : (n : ℕ) (xs : List Path) → nat_lt n (length xs) ≡ nat_lt n (length (take (suc n) xs))
more_left n xs = grind (arith, nat_tests, length-take)

-- a page is decided by one path more than it has
pub page_same : (max : ℕ) (xs ys : List Path) → take (suc max) xs ≡ take (suc max) ys → page_of max xs ≡ page_of max ys
page_same max xs ys e =
    let paths : take max xs ≡ take max ys = take_less max xs ∙ ap (take max) e ∙ sym (take_less max ys) in
    let more : nat_lt max (length xs) ≡ nat_lt max (length ys) = more_left max xs ∙ ap (λ (ps : List Path). nat_lt max (length ps)) e ∙ sym (more_left max ys) in
    rw (paths, more) refl

-- what stands before something up to a place stands before that place
pub early : (n : ℕ) (xs : List Path) (q r : Path) → Ascends xs → Among q xs → IsUpTo n xs r → Before q r → Among q (take n xs)
early n [] q r up k is b = absurd k
early zero (x ∷ xs) q r up (inl e) is b = absurd (is x refl (subst (λ p. Before p r) e b))
early zero (x ∷ xs) q r up (inr k) is b = absurd (is x refl (before_trans x q r (up.0 q k) b))
early (suc n) (x ∷ xs) q r up (inl e) is b = inl e
early (suc n) (x ∷ xs) q r up (inr k) is b = inr (early n xs q r up.1 k is b)

pub front_trans : (o q token : Path) → is_prefix o q ≡ true → is_prefix q token ≡ true → is_prefix o token ≡ true
front_trans o q token h k =
    let one = behind_front o q h in
    let two = behind_front q token k in
    let whole : token ≡ o ++ (one.0 ++ two.0) = two.1 ∙ ap (λ p. p ++ two.0) one.1 ∙ append_assoc o one.0 two.0 in
    subst (λ p. is_prefix o p ≡ true) (sym whole) (front_of_append o (one.0 ++ two.0))

-- What is listed is at or below d, and what is above it up to d is listed too.
pub record IsListing (d : Path) (test : Path → Bool) : Type 0 where
  pub inside : (q : Path) → test q ≡ true → is_prefix d q ≡ true
  pub upwards : (o more : Path) (n : List ℕ) → is_prefix d o ≡ true → test (o ++ n ∷ more) ≡ true → (test o ≡ true) ⊎ (o ≡ d)

module _ (s t : Tree) (laid_s : IsLaid s) (laid_t : IsLaid t) (d : Path) (test : Path → Bool) (listing : IsListing d test) (token : Option Path) where
  abbrev pub ListOf : Tree → List Path
  ListOf u = keys_where u (over_test test token)

  -- A path that isn't over the token, with one over it below, is on the way to the token.
  on_way : (token : Option Path) (o more : Path) (n : List ℕ) → is_over token o ≡ false → is_over token (o ++ n ∷ more) ≡ true → test o ≡ true → is_some (at s o) ≡ true → Among o (on_the_way s test token)
  on_way None o more n low high passes there = absurd (false≢true (sym low))
  on_way (Some token) o more n low high passes there = among_keys s (λ q. test q && is_prefix q token) o there (together passes (between o (n ∷ more) token low high))

  module _ (here : Alike s t d) (way : (o : Path) → Among o (on_the_way s test token) → Alike s t o) where
    reached : (n : ℕ) → ((o : Path) → Among o (take n (ListOf s)) → Alike s t o) → (q : Path) → is_over token q ≡ true → IsUpTo n (ListOf s) q
        → (o more : Path) (m : List ℕ) → q ≡ o ++ m ∷ more → is_some (at s o) ≡ true → (test o ≡ true) ⊎ (o ≡ d) → Alike s t o
    reached n page q over up o more m e there (inr same) = subst (λ p. Alike s t p) (sym same) here
    reached n page q over up o more m e there (inl passes) = elim (cases_Bool (is_over token o)) [
      | inl high ↦ page o (early n (ListOf s) o q (keys_ascend s (over_test test token)) (among_keys s (over_test test token) o there (together passes high)) up (subst (λ p. Before o p) (sym e) (stands_before o more m)))
      | inr low ↦ way o (on_way token o more m low (subst (λ p. is_over token p ≡ true) e over) passes there)
    ]

    -- what is listed up to a place shows alike, where what is before that place is alike
    shown_up_to : (n : ℕ) → ((o : Path) → Among o (take n (ListOf s)) → Alike s t o) → (q : Path) → test q ≡ true → is_over token q ≡ true → IsUpTo n (ListOf s) q
        → is_some (at s q) ≡ is_some (at t q)
    shown_up_to n page q passes over up =
        let rest = behind_front d q (listing.inside q passes) in
        subst (λ p. is_some (at s p) ≡ is_some (at t p)) (sym rest.1)
        (shown_down s t laid_s laid_t d rest.0 (ap is_some here.node) (λ o more m e front there.
        let whole : q ≡ o ++ m ∷ more = rest.1 ∙ e in
        reached n page q over up o more m whole there (listing.upwards o more m front (subst (λ p. test p ≡ true) whole passes))))

    first_to : (n : ℕ) → ((o : Path) → Among o (take n (ListOf s)) → Alike s t o) → (q : Path) → IsUpTo n (ListOf s) q → Among q (ListOf s) → Among q (ListOf t)
    first_to n page q up k =
        let is = keys_among s (over_test test token) q k in
        let parts = both _ _ is.0 in
        among_keys t (over_test test token) q (sym (shown_up_to n page q parts.0 parts.1 up) ∙ is.1) is.0

    first_from : (n : ℕ) → ((o : Path) → Among o (take n (ListOf s)) → Alike s t o) → (q : Path) → IsUpTo n (ListOf s) q → Among q (ListOf t) → Among q (ListOf s)
    first_from n page q up k =
        let is = keys_among t (over_test test token) q k in
        let parts = both _ _ is.0 in
        among_keys s (over_test test token) q (shown_up_to n page q parts.0 parts.1 up ∙ is.1) is.0

    -- the first paths are the same, one more than those that are alike
    pub first_paths : (n : ℕ) → ((o : Path) → Among o (take n (ListOf s)) → Alike s t o) → take (suc n) (ListOf s) ≡ take (suc n) (ListOf t)
    first_paths n page =
        first_same n (ListOf s) (ListOf t) (keys_ascend s (over_test test token)) (keys_ascend t (over_test test token)) (λ q up. (first_to n page q up, first_from n page q up))

  way_of : (token : Option Path) → Alike s t d → ((o : Path) → Among o (on_the_way s test token) → Alike s t o) → on_the_way s test token ≡ on_the_way t test token
  way_of None here way = refl
  way_of (Some token) here way =
      keys_same s t (λ q. test q && is_prefix q token) (λ q passes.
      let parts = both _ _ passes in
      let rest = behind_front d q (listing.inside q parts.0) in
      subst (λ p. is_some (at s p) ≡ is_some (at t p)) (sym rest.1)
      (shown_down s t laid_s laid_t d rest.0 (ap is_some here.node) (λ o more m e front there.
      let whole : q ≡ o ++ m ∷ more = rest.1 ∙ e in
      let before : is_prefix o token ≡ true = front_trans o q token (subst (λ p. is_prefix o p ≡ true) (sym whole) (front_of_append o (m ∷ more))) parts.1 in
      elim (listing.upwards o more m front (subst (λ p. test p ≡ true) whole parts.0)) [
        | inl up ↦ way o (among_keys s (λ p. test p && is_prefix p token) o there (together up before))
        | inr same ↦ subst (λ p. Alike s t p) (sym same) here
      ])))

  -- what is on the way to the token is the same
  pub way_same_paths : Alike s t d → ((o : Path) → Among o (on_the_way s test token) → Alike s t o) → on_the_way s test token ≡ on_the_way t test token
  way_same_paths = way_of token

-- ---- the two listings

longer : (d : Path) (n : List ℕ) (r : Path) → nat_lt (length d) (length (d ++ n ∷ r)) ≡ true
longer d n r = let long : length (d ++ n ∷ r) ≡ length d + suc (length r) = length_append d (n ∷ r) in above_by (length d) (length (d ++ n ∷ r)) (length r) long
  where
    above_by : (a b c : ℕ) → b ≡ a + suc c → nat_lt a b ≡ true
    above_by a b c e = grind (arith, nat_tests)

pub append_none : (d : Path) → d ++ [] ≡ d
append_none [] = refl
append_none (n ∷ d) = ap (λ q. n ∷ q) (append_none d)

pub below_is_listing : (d : Path) → IsListing d (is_below d)
below_is_listing d = record {
  inside = λ q e. (both _ _ e).0;
  upwards = λ o more n front passes. place o (behind_front d o front);
}
  where
    place : (o : Path) → ((r : Path) × (o ≡ d ++ r)) → (is_below d o ≡ true) ⊎ (o ≡ d)
    place o ([], e) = inr (e ∙ append_none d)
    place o (n ∷ r, e) = inl (subst (λ p. is_below d p ≡ true) (sym e) (together (front_of_append d (n ∷ r)) (longer d n r)))

pub at_or_below_is_listing : (d : Path) → IsListing d (is_prefix d)
at_or_below_is_listing d = record {
  inside = λ q e. e;
  upwards = λ o more n front passes. inl front;
}
