-- The laws of texts, escapes and the order of paths.
use Rattle.std.proofs.Common.{◌≡◌, ℕ, zero, suc, ◌+◌, ◌<◌, ◌↔◌, Bool, true, false, cond, List, [], ◌∷◌, ◌++◌, drop, Option, Some, None, option_map, refl, ap, ◌∙◌, subst, ⊎_elim, arith}
use Rattle.std.specs.declared.cmp.Ordering.TheVariants.{Less}
use Rattle.std.specs.Ordering.{ordering_then}
use Rattle.std.specs.Cmp.Lexicographic.{nat_list_cmp_total}
use Rattle.std.proofs.lemmas.Bool.{false≢true, cases_Bool}
use Rattle.std.proofs.lemmas.Cmp.{tied_itself}
use Rattle.path_text.specs.Paths.{path_cmp}
use Rattle.path_text.specs.Targets.{IsFirstBadEscape, bad_escape, begins_badly}

-- the place is where the first bad escape stands
first_where : (text : List ℕ) (at : ℕ) → bad_escape text ≡ Some at → IsFirstBadEscape text at
unfolding bad_escape
first_where [] at e = cc
first_where (b ∷ rest) at e =
    ⊎_elim
    (λ bad. let here : at ≡ 0 = at_zero (begins_badly (b ∷ rest)) (option_map (λ k. k + 1) (bad_escape rest)) at bad e in
    record {
      within = omega arith;
      bad = ap (λ n. begins_badly (drop n (b ∷ rest))) here ∙ bad;
      none_before = λ k below. absurd (omega arith);
    })
    (λ fine. let later = moved (bad_escape rest) at (subst (λ (t : Bool). cond t (Some 0) (option_map (λ k. k + 1) (bad_escape rest)) ≡ Some at) fine e) in
    let more = first_where rest later.0 later.1 in
    let place : at ≡ suc later.0 = omega (arith, later.2) in
    let shorter = more.within in
    record {
      within = omega arith;
      bad = ap (λ n. begins_badly (drop n (b ∷ rest))) place ∙ more.bad;
      none_before = passed_before b rest at later.0 place fine more.none_before;
    })
    (cases_Bool (begins_badly (b ∷ rest)))
  where
    at_zero : (t : Bool) (o : Option ℕ) (at : ℕ) → t ≡ true → cond t (Some 0) o ≡ Some at → at ≡ 0
    at_zero true o at bad e = cc
    at_zero false o at bad e = absurd (false≢true bad)

    moved : (o : Option ℕ) (at : ℕ) → option_map (λ k. k + 1) o ≡ Some at → (k : ℕ) × (o ≡ Some k) × (k + 1 ≡ at)
    moved None at e = cc
    moved (Some k) at e = (k, refl, cc)

    passed_before : (b : ℕ) (rest : List ℕ) (at k : ℕ) → at ≡ suc k → begins_badly (b ∷ rest) ≡ false → ((i : ℕ) → i < k → begins_badly (drop i rest) ≡ false) → (i : ℕ) → i < at → begins_badly (drop i (b ∷ rest)) ≡ false
    passed_before b rest at k place fine before zero below = fine
    passed_before b rest at k place fine before (suc i) below = before i (omega arith)

where_first : (text : List ℕ) (at : ℕ) → IsFirstBadEscape text at → bad_escape text ≡ Some at
unfolding bad_escape
where_first [] at is = absurd (let within = is.within in omega arith)
where_first (b ∷ rest) zero is = ap (λ t. cond t (Some 0) (option_map (λ k. k + 1) (bad_escape rest))) is.bad
where_first (b ∷ rest) (suc at) is =
    let inside = is.within in
    let fine = is.none_before 0 (omega arith) in
    let more = where_first rest at (record { within = omega arith; bad = is.bad; none_before = λ k below. is.none_before (suc k) (omega arith) }) in
    let same : at + 1 ≡ suc at = omega arith in
    ap (λ t. cond t (Some 0) (option_map (λ k. k + 1) (bad_escape rest))) fine ∙ ap (option_map (λ k. k + 1)) more ∙ ap (λ n. Some n) same

pub first_bad_escape : (text : List ℕ) (at : ℕ) → (bad_escape text ≡ Some at) ↔ IsFirstBadEscape text at
first_bad_escape text at = (first_where text at, where_first text at)

pub stands_before : (path names : List (List ℕ)) (name : List ℕ) → path_cmp path (path ++ name ∷ names) ≡ Less
stands_before [] names name = refl
stands_before (part ∷ path) names name =
    ap (λ o. ordering_then o (path_cmp path (path ++ name ∷ names))) (tied_itself nat_list_cmp_total part) ∙ stands_before path names name
