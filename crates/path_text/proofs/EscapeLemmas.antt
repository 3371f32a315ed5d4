-- Facts about escapes.
use Rattle.std.proofs.Common.{◌≡◌, ◌≢◌, ℕ, zero, suc, ◌+◌, ◌<◌, ◌≤◌, Bool, true, false, not, ◌&&◌, ◌⊎◌, cond, ltb, List, [], ◌∷◌, ◌++◌, length, drop, map, slice_get, Option, Some, None, option_map, refl, sym, ap, ◌∙◌, subst, ⊎_elim, inl, inr, append-nil, arith}
use Rattle.std.specs.List.{flat_map, join_with_byte}
use Rattle.std.proofs.lemmas.List.{at_drop_more, at_drop_all}
use Rattle.std.proofs.lemmas.Bool.{false≢true, cases_Bool}
use Rattle.std.proofs.lemmas.Bool.Decides.{nat_tests, eqb_tells}
use Rattle.percent_encoding.specs.AsciiSet.{should_percent_encode}
use Rattle.percent_encoding.specs.Percent.{encode_byte, percent_encode, percent_encode_byte}
use Rattle.path_text.specs.declared.escape.TheConstants.{ESCAPED}
use Rattle.path_text.specs.Targets.{bad_escape, begins_badly, escaped, escaped_byte, is_unreserved, written_path}

bad_escape-drop : (text : List ℕ) (at : ℕ) → at < length text → bad_escape (drop at text) ≡ cond (begins_badly (drop at text)) (Some 0) (option_map (λ k. k + 1) (bad_escape (drop (at + 1) text)))
unfolding bad_escape
bad_escape-drop text at within =
    at_drop_more bad_escape text at 0 within
    ∙ ap (λ b. cond b (Some 0) (option_map (λ k. k + 1) (bad_escape (drop (at + 1) text)))) (sym (at_drop_more begins_badly text at 0 within))

pub bad_escape-found : (text : List ℕ) (at : ℕ) → at < length text → begins_badly (drop at text) ≡ true → option_map (λ k. k + at) (bad_escape (drop at text)) ≡ bad_escape text → Some at ≡ bad_escape text
bad_escape-found text at within bad before =
    let here : bad_escape (drop at text) ≡ Some 0 = bad_escape-drop text at within ∙ ap (λ b. cond b (Some 0) (option_map (λ k. k + 1) (bad_escape (drop (at + 1) text)))) bad in
    let zero_at : at ≡ 0 + at = omega arith in
    ap (λ n. Some n) zero_at ∙ sym (ap (option_map (λ k. k + at)) here) ∙ before

shifted : (o : Option ℕ) (at : ℕ) → option_map (λ k. k + (at + 1)) o ≡ option_map (λ k. k + at) (option_map (λ k. k + 1) o)
shifted None at = refl
shifted (Some k) at =
    let same : k + (at + 1) ≡ k + 1 + at = omega arith in
    ap (λ n. Some n) same

pub bad_escape-passed : (text : List ℕ) (at : ℕ) → at < length text → begins_badly (drop at text) ≡ false → option_map (λ k. k + at) (bad_escape (drop at text)) ≡ bad_escape text → option_map (λ k. k + (at + 1)) (bad_escape (drop (at + 1) text)) ≡ bad_escape text
bad_escape-passed text at within fine before =
    let here : bad_escape (drop at text) ≡ option_map (λ k. k + 1) (bad_escape (drop (at + 1) text)) = bad_escape-drop text at within ∙ ap (λ b. cond b (Some 0) (option_map (λ k. k + 1) (bad_escape (drop (at + 1) text)))) fine in
    shifted (bad_escape (drop (at + 1) text)) at ∙ sym (ap (option_map (λ k. k + at)) here) ∙ before

pub bad_escape-none : (text : List ℕ) (at : ℕ) → length text ≤ at → option_map (λ k. k + at) (bad_escape (drop at text)) ≡ bad_escape text → None ≡ bad_escape text
unfolding bad_escape
bad_escape-none text at past before =
    sym (ap (option_map (λ k. k + at)) (at_drop_all bad_escape text at past)) ∙ before

-- ---- what is written

below : (a b : ℕ) → ltb a b ≡ true → a < b
below a b e = grind (arith, nat_tests)

not_below : (a b : ℕ) → ltb a b ≡ false → b ≤ a
not_below a b e = grind (arith, nat_tests)

lt_or_le : (a b : ℕ) → (a < b) ⊎ (b ≤ a)
lt_or_le a b = ⊎_elim (λ e. inl (below a b e)) (λ e. inr (not_below a b e)) (cases_Bool (ltb a b))

all_below : (ℕ → Bool) → ℕ → Bool
all_below p zero = true
all_below p (suc n) = p n && all_below p n

both : (a b : Bool) → (a && b) ≡ true → (a ≡ true) × (b ≡ true)
both true b e = (refl, e)
both false b e = absurd (false≢true e)

from_below : (p : ℕ → Bool) (n : ℕ) → all_below p n ≡ true → (b : ℕ) → b < n → p b ≡ true
unfolding all_below
from_below p zero all b within = absurd (omega arith)
from_below p (suc n) all b within =
    let parts = both (p n) (all_below p n) all in
    ⊎_elim (λ e. subst (λ (k : ℕ). p k ≡ true) (sym e.1) parts.0) (λ other. let apart : b ≢ n = other.1 in from_below p n parts.1 b (omega arith)) (eqb_tells b n)

is_same : Bool → Bool → Bool
is_same true x = x
is_same false x = not x

same_from : (a b : Bool) → is_same a b ≡ true → a ≡ b
unfolding is_same
same_from true true e = refl
same_from true false e = absurd (false≢true e)
same_from false true e = absurd (false≢true e)
same_from false false e = refl

agrees : ℕ → Bool
agrees b = is_same (should_percent_encode ESCAPED b) (not (is_unreserved b))

agrees_below_128 : all_below agrees 128 ≡ true
unfolding all_below agrees is_same should_percent_encode
agrees_below_128 = refl

is_not_unreserved : (b : ℕ) → 128 ≤ b → is_unreserved b ≡ false
is_not_unreserved b high = grind (arith, nat_tests)

is_not_ascii : (b : ℕ) → 128 ≤ b → should_percent_encode ESCAPED b ≡ true
unfolding should_percent_encode
is_not_ascii b high = grind (arith, nat_tests)

escapes_others : (b : ℕ) → should_percent_encode ESCAPED b ≡ not (is_unreserved b)
unfolding agrees
escapes_others b =
    ⊎_elim (λ (low : b < 128). same_from _ _ (from_below agrees 128 agrees_below_128 b low)) (λ (high : 128 ≤ b). is_not_ascii b high ∙ ap not (sym (is_not_unreserved b high))) (lt_or_le b 128)

swapped : (u : Bool) (x y : List ℕ) → cond (not u) x y ≡ cond u y x
swapped true x y = refl
swapped false x y = refl

encode_byte-is : (b : ℕ) → encode_byte ESCAPED b ≡ escaped_byte b
encode_byte-is b =
    ap (λ u. cond u (percent_encode_byte b) (b ∷ [])) (escapes_others b) ∙ swapped (is_unreserved b) (percent_encode_byte b) (b ∷ [])

pub escaped-is : (part : List ℕ) → percent_encode ESCAPED part ≡ escaped part
unfolding percent_encode escaped
escaped-is [] = refl
escaped-is (b ∷ part) =
    ap (λ x. x ++ percent_encode ESCAPED part) (encode_byte-is b) ∙ ap (λ x. escaped_byte b ++ x) (escaped-is part)

joined_names : (part : List ℕ) (names : List (List ℕ)) → join_with_byte 47 (map escaped (part ∷ names)) ≡ escaped part ++ flat_map (λ name. 47 ∷ escaped name) names
joined_names part [] = sym (append-nil (escaped part))
joined_names part (name ∷ names) = ap (λ x. escaped part ++ (47 ∷ x)) (joined_names name names)

pub written_account : (path : List (List ℕ)) → None ≡ slice_get path 0 → 47 ∷ [] ≡ written_path path
unfolding written_path
written_account [] e = refl
written_account (part ∷ names) e = cc

pub written_parts : (path : List (List ℕ)) (part : List ℕ) → Some part ≡ slice_get path 0 → ((47 ∷ []) ++ escaped part) ++ flat_map (λ name. 47 ∷ escaped name) (drop 1 path) ≡ written_path path
unfolding written_path
written_parts [] part e = cc
written_parts (first ∷ names) part e =
    let same : part ≡ first = cc in
    ap (λ x. 47 ∷ (escaped x ++ flat_map (λ name. 47 ∷ escaped name) names)) same ∙ ap (λ x. 47 ∷ x) (sym (joined_names first names))
