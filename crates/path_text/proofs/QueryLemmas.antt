-- A query spells its pairs exactly where it is cut into them.
use Rattle.std.proofs.Common.{◌≡◌, ℕ, zero, suc, ◌+◌, ◌<◌, ◌≤◌, inl, inr, Bool, true, false, not, ltb, List, [], ◌∷◌, ◌++◌, length, get_or, take, drop, map, Option, Some, None, is_some, refl, sym, ap, ◌∙◌, ⊎_elim, arith}
use Rattle.std.specs.List.{AllZip, before_first, after_first, join_with_byte, list_all, position_or_len, slice_split}
use Rattle.std.proofs.lemmas.Bool.{cases_Bool, eqb-true}
use Rattle.std.proofs.lemmas.Bool.Decides.{nat_tests}
use Rattle.std.proofs.lemmas.List.{get_or-take, take_all, drop_all}
use Rattle.std.proofs.lemmas.List.Sums.{fails_before_first, passes_at_first, split_at_first}
use Rattle.std.proofs.lemmas.List.Splits.{join_with_byte-slice_split, length-slice_split}
use Rattle.std.proofs.Math.Seq.{take-append_seam}
use Rattle.percent_encoding.specs.Percent.{percent_decode}
use Rattle.percent_encoding.proofs.PercentLemmas.{percent_decode-nil}
use Rattle.path_text.specs.Queries.{SpellsPair, SpellsQuery, is_ampersand, is_equals}
use Rattle.path_text.specs.Targets.{HasNoBadEscape, SpellsQueryPart, bad_escape, has_bad_query, pair_of, query_pairs}
use Rattle.path_text.proofs.PlaceLemmas.{both_parts}
use Rattle.path_text.proofs.SplitLemmas.{pieces_have_none, split_join}
use Rattle.path_text.proofs.LawLemmas.{first_bad_escape}

-- ---- a piece

all_where : (p : ℕ → Bool) (xs : List ℕ) → ((k : ℕ) → k < length xs → p (get_or xs k 0) ≡ true) → list_all p xs ≡ true
all_where p [] h = refl
all_where p (x ∷ xs) h = rw (h 0 (omega arith)) (all_where p xs (λ k within. h (suc k) (omega arith)))

short_take : (n k : ℕ) (xs : List ℕ) → k < length (take n xs) → k < n
short_take zero k xs within = absurd (omega arith)
short_take (suc n) k [] within = absurd (omega arith)
short_take (suc n) zero (x ∷ xs) within = omega arith
short_take (suc n) (suc k) (x ∷ xs) within = let less : k < n = short_take n k xs (omega arith) in omega arith

front_fails : (p : ℕ → Bool) (xs : List ℕ) → list_all (λ b. not (p b)) (before_first p xs) ≡ true
front_fails p xs =
    all_where (λ b. not (p b)) (before_first p xs)
    (λ k within. let below = short_take (position_or_len p xs) k xs within in
    ap not (ap p (get_or-take (position_or_len p xs) xs k 0 below) ∙ fails_before_first p xs k 0 below))

inside : (a b : ℕ) → ltb a b ≡ true → a < b
inside a b e = grind (arith, nat_tests)

outside : (a b : ℕ) → ltb a b ≡ false → b ≤ a
outside a b e = grind (arith, nat_tests)

pair_spelled : (piece : List ℕ) → SpellsPair piece (pair_of piece)
unfolding pair_of
pair_spelled piece = record {
  key = before_first is_equals piece;
  no_equals = front_fails is_equals piece;
  key_decoded = refl;
  value = ⊎_elim
      (λ there.
      let below = inside (position_or_len is_equals piece) (length piece) there in
      let byte : get_or piece (position_or_len is_equals piece) 0 ≡ 61 = eqb-true _ 61 (passes_at_first is_equals piece 0 below) in
      inr (after_first is_equals piece, split_at_first is_equals piece 0 below ∙ ap (λ b. before_first is_equals piece ++ b ∷ after_first is_equals piece) byte, refl))
      (λ gone.
      let past = outside (position_or_len is_equals piece) (length piece) gone in
      inl (sym (take_all (position_or_len is_equals piece) piece past), ap percent_decode (drop_all (position_or_len is_equals piece + 1) piece (omega arith)) ∙ percent_decode-nil))
      (cases_Bool (ltb (position_or_len is_equals piece) (length piece)));
}

key_place : (key value : List ℕ) → list_all (λ b. not (is_equals b)) key ≡ true → position_or_len is_equals (key ++ 61 ∷ value) ≡ length key
key_place [] value e = refl
key_place (b ∷ key) value e =
    let parts = both_parts (not (is_equals b)) (list_all (λ x. not (is_equals x)) key) e in
    rw parts.0 (ap (λ n. 1 + n) (key_place key value parts.1) ∙ (omega arith))

whole_place : (key : List ℕ) → list_all (λ b. not (is_equals b)) key ≡ true → position_or_len is_equals key ≡ length key
whole_place [] e = refl
whole_place (b ∷ key) e =
    let parts = both_parts (not (is_equals b)) (list_all (λ x. not (is_equals x)) key) e in
    rw parts.0 (ap (λ n. 1 + n) (whole_place key parts.1) ∙ (omega arith))

drop_past : (key value : List ℕ) → drop (length key + 1) (key ++ 61 ∷ value) ≡ value
drop_past [] value = refl
drop_past (b ∷ key) value =
    let place : length (b ∷ key) + 1 ≡ suc (length key + 1) = omega arith in
    ap (λ n. drop n ((b ∷ key) ++ 61 ∷ value)) place ∙ drop_past key value

pair_is : (piece : List ℕ) (pair : List ℕ × List ℕ) → SpellsPair piece pair → pair ≡ pair_of piece
unfolding pair_of
pair_is piece pair is =
    ⊎_elim
    (λ whole.
    let place = whole_place is.key is.no_equals in
    let key : before_first is_equals piece ≡ is.key = ap (before_first is_equals) whole.0 ∙ ap (λ n. take n is.key) place ∙ take_all (length is.key) is.key (omega arith) in
    let value : after_first is_equals piece ≡ [] = ap (after_first is_equals) whole.0 ∙ ap (λ n. drop (n + 1) is.key) place ∙ drop_all (length is.key + 1) is.key (omega arith) in
    together (is.key_decoded ∙ ap percent_decode (sym key)) (whole.1 ∙ sym (ap percent_decode value ∙ percent_decode-nil)))
    (λ cut.
    let place = key_place is.key cut.0 is.no_equals in
    let key : before_first is_equals piece ≡ is.key = ap (before_first is_equals) cut.1 ∙ ap (λ n. take n (is.key ++ 61 ∷ cut.0)) place ∙ take-append_seam is.key (61 ∷ cut.0) in
    let value : after_first is_equals piece ≡ cut.0 = ap (after_first is_equals) cut.1 ∙ ap (λ n. drop (n + 1) (is.key ++ 61 ∷ cut.0)) place ∙ drop_past is.key cut.0 in
    together (is.key_decoded ∙ ap percent_decode (sym key)) (cut.2 ∙ ap percent_decode (sym value)))
    is.value
  where
    together : {a b c d : List ℕ} → a ≡ b → c ≡ d → ◌≡◌ {A = List ℕ × List ℕ} (a, c) (b, d)
    together {a} {b} {c} {d} one two = ap (λ x. (x, c)) one ∙ ap (λ y. (b, y)) two

-- ---- a query

pieces_spelled : (pieces : List (List ℕ)) → AllZip SpellsPair pieces (map pair_of pieces)
pieces_spelled [] = tt
pieces_spelled (piece ∷ pieces) = (pair_spelled piece, pieces_spelled pieces)

pairs_are : (pieces : List (List ℕ)) (pairs : List (List ℕ × List ℕ)) → AllZip SpellsPair pieces pairs → pairs ≡ map pair_of pieces
pairs_are [] [] h = refl
pairs_are [] (pair ∷ pairs) h = absurd h
pairs_are (piece ∷ pieces) [] h = absurd h
pairs_are (piece ∷ pieces) (pair ∷ pairs) h =
    ap (λ p. p ∷ pairs) (pair_is piece pair h.0) ∙ ap (λ ps. pair_of piece ∷ ps) (pairs_are pieces pairs h.1)

pub query_spelled : (query : List ℕ) → SpellsQuery query (map pair_of (slice_split is_ampersand query))
query_spelled query =
    let many = length-slice_split is_ampersand query in
    record {
      pieces = slice_split is_ampersand query;
      some = omega (arith, many);
      joined = sym (join_with_byte-slice_split 38 query);
      no_ampersand = pieces_have_none is_ampersand query;
      spelled = pieces_spelled (slice_split is_ampersand query);
    }

pub query_is : (query : List ℕ) (pairs : List (List ℕ × List ℕ)) → SpellsQuery query pairs → pairs ≡ map pair_of (slice_split is_ampersand query)
query_is query pairs is = pairs_are is.pieces pairs is.spelled ∙ ap (map pair_of) (sym (cut is.pieces is.some is.joined is.no_ampersand))
  where
    cut : (pieces : List (List ℕ)) → 0 < length pieces → query ≡ join_with_byte 38 pieces → list_all (list_all (λ b. not (is_ampersand b))) pieces ≡ true → slice_split is_ampersand query ≡ pieces
    cut [] some e none = absurd (omega arith)
    cut (piece ∷ pieces) some e none = ap (slice_split is_ampersand) e ∙ split_join is_ampersand 38 refl piece pieces none

-- ---- escapes, and the part of a target behind its `?`

pub no_bad : (text : List ℕ) → bad_escape text ≡ None → HasNoBadEscape text
no_bad text none = λ at is. apart at (sym none ∙ (first_bad_escape text at).1 is)
  where
    apart : (at : ℕ) → None ≡ Some at → ⊥
    apart at e = cc

pub none_bad : (text : List ℕ) → HasNoBadEscape text → bad_escape text ≡ None
none_bad text none = at_none (bad_escape text) refl
  where
    at_none : (o : Option ℕ) → bad_escape text ≡ o → bad_escape text ≡ None
    at_none None is = is
    at_none (Some at) is = absurd (none at ((first_bad_escape text at).0 is))

pub query_part_spelled : (part : Option (List ℕ)) → has_bad_query part ≡ false → SpellsQueryPart part (query_pairs part)
unfolding query_pairs
query_part_spelled None e = refl
query_part_spelled (Some query) e = (no_bad query (not_some (bad_escape query) e), query_spelled query)
  where
    not_some : (o : Option ℕ) → is_some o ≡ false → o ≡ None
    not_some None e = refl
    not_some (Some at) e = cc

pub query_part_is : (part : Option (List ℕ)) (pairs : List (List ℕ × List ℕ)) → SpellsQueryPart part pairs → (has_bad_query part ≡ false) × (pairs ≡ query_pairs part)
unfolding query_pairs
query_part_is None pairs h = (refl, h)
query_part_is (Some query) pairs h = (ap is_some (none_bad query h.0), query_is query pairs h.1)
