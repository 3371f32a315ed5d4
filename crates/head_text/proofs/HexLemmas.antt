-- Sixteen hex digits write their number, and the entity tag of a number is read as it.
use Rattle.std.proofs.Common.{codes, ◌≡◌, ℕ, ◌+◌, ◌*◌, ◌/◌, ◌%◌, ◌<◌, ◌^◌, true, false, cond, bytes_eq, List, [], ◌∷◌, length, Some, refl, ap, inl, inr, ◌∙◌, arith}
use Rattle.std.specs.Char.{is_ascii_hexdigit, digit_value}
use Rattle.std.specs.List.{list_all, filter_map, slice_split, cons_option}
use Rattle.std.specs.Str.Parse.{digits_value}
use Rattle.std.proofs.lemmas.Bool.Decides.{nat_tests}
use Rattle.std.proofs.lemmas.List.Elements.{All-from_recursion}
use Rattle.std.proofs.lemmas.List.Splits.{slice_split_none}
use Rattle.head_text.specs.ETags.{etags_of, is_comma, item_number, trimmed}
use Rattle.head_text.specs.Hex.{hex16, hex_at, hex_digit}
use Rattle.head_text.specs.Tags.{Tags}
use Rattle.head_text.specs.TagTexts.{SpellsTag, etag_text}
use Rattle.head_text.proofs.TagTextLemmas.{item_law}
use native.Mathlib.Nat as nat

-- ---- one digit

digit_of : (d : ℕ) → d < 16 → digit_value (hex_digit d) ≡ d
digit_of d small = grind (arith, nat_tests)

is_hex : (d : ℕ) → d < 16 → is_ascii_hexdigit (hex_digit d) ≡ true
is_hex d small = grind (arith, nat_tests)

no_comma : (d : ℕ) → d < 16 → is_comma (hex_digit d) ≡ false
no_comma d small = grind (arith, nat_tests)

value_at : (n k : ℕ) → digit_value (hex_at n k) ≡ n / 16 ^ k % 16
value_at n k = digit_of (n / 16 ^ k % 16) (omega arith)

hex_holds : (n k : ℕ) → is_ascii_hexdigit (hex_at n k) ≡ true
hex_holds n k = is_hex (n / 16 ^ k % 16) (omega arith)

comma_fails : (n k : ℕ) → is_comma (hex_at n k) ≡ false
comma_fails n k = no_comma (n / 16 ^ k % 16) (omega arith)

-- ---- sixteen digits

joined_16 : (d0 d1 d2 d3 d4 d5 d6 d7 d8 d9 d10 d11 d12 d13 d14 d15 n p1 p2 p3 p4 p5 p6 p7 p8 p9 p10 p11 p12 p13 p14 p15 : ℕ)
    → n ≡ d0 + p1 * 16
    → p1 ≡ d1 + p2 * 16
    → p2 ≡ d2 + p3 * 16
    → p3 ≡ d3 + p4 * 16
    → p4 ≡ d4 + p5 * 16
    → p5 ≡ d5 + p6 * 16
    → p6 ≡ d6 + p7 * 16
    → p7 ≡ d7 + p8 * 16
    → p8 ≡ d8 + p9 * 16
    → p9 ≡ d9 + p10 * 16
    → p10 ≡ d10 + p11 * 16
    → p11 ≡ d11 + p12 * 16
    → p12 ≡ d12 + p13 * 16
    → p13 ≡ d13 + p14 * 16
    → p14 ≡ d14 + p15 * 16
    → p15 ≡ d15
    → (((((((((((((((0 * 16 + d15) * 16 + d14) * 16 + d13) * 16 + d12) * 16 + d11) * 16 + d10) * 16 + d9) * 16 + d8) * 16 + d7) * 16 + d6) * 16 + d5) * 16 + d4) * 16 + d3) * 16 + d2) * 16 + d1) * 16 + d0 ≡ n
joined_16 d0 d1 d2 d3 d4 d5 d6 d7 d8 d9 d10 d11 d12 d13 d14 d15 n p1 p2 p3 p4 p5 p6 p7 p8 p9 p10 p11 p12 p13 p14 p15 at_0 at_1 at_2 at_3 at_4 at_5 at_6 at_7 at_8 at_9 at_10 at_11 at_12 at_13 at_14 at_15 = omega arith

-- one digit of a number and what is above it
digit_and_rest : (n p : ℕ) → n / p ≡ n / p % 16 + n / (p * 16) * 16
digit_and_rest n p = omega (arith, nat.div-div-eq-div-mul n p 16)

pub hex16_is_read : (n : ℕ) → n < 2 ^ 64 → digits_value 16 (hex16 n) ≡ n
unfolding hex16
hex16_is_read n fits =
    let low : n ≡ n / 1 % 16 + n / 16 * 16 = omega arith in
    let high : n / 1152921504606846976 ≡ n / 1152921504606846976 % 16 = omega arith in
    rw (value_at n 15, value_at n 14, value_at n 13, value_at n 12, value_at n 11, value_at n 10, value_at n 9, value_at n 8, value_at n 7, value_at n 6, value_at n 5, value_at n 4, value_at n 3, value_at n 2, value_at n 1, value_at n 0)
    (joined_16 _ _ _ _ _ _ _ _ _ _ _ _ _ _ _ _ n _ _ _ _ _ _ _ _ _ _ _ _ _ _ _ low (digit_and_rest n 16) (digit_and_rest n 256) (digit_and_rest n 4096) (digit_and_rest n 65536) (digit_and_rest n 1048576) (digit_and_rest n 16777216) (digit_and_rest n 268435456) (digit_and_rest n 4294967296) (digit_and_rest n 68719476736) (digit_and_rest n 1099511627776) (digit_and_rest n 17592186044416) (digit_and_rest n 281474976710656) (digit_and_rest n 4503599627370496) (digit_and_rest n 72057594037927936) high)

all_hex16 : (n : ℕ) → list_all is_ascii_hexdigit (hex16 n) ≡ true
unfolding hex16
all_hex16 n = rw (hex_holds n 15, hex_holds n 14, hex_holds n 13, hex_holds n 12, hex_holds n 11, hex_holds n 10, hex_holds n 9, hex_holds n 8, hex_holds n 7, hex_holds n 6, hex_holds n 5, hex_holds n 4, hex_holds n 3, hex_holds n 2, hex_holds n 1, hex_holds n 0) refl

-- ---- the entity tag of a number

trimmed_tag : (n : ℕ) → trimmed (etag_text n) ≡ etag_text n
unfolding trimmed hex16 etag_text
trimmed_tag n = refl

no_star : (n : ℕ) → bytes_eq (etag_text n) (codes "*") ≡ false
unfolding hex16 etag_text
no_star n = refl

one_item : (n : ℕ) → slice_split is_comma (etag_text n) ≡ etag_text n ∷ []
unfolding hex16 etag_text
one_item n =
    slice_split_none is_comma (etag_text n) (All-from_recursion (λ b. is_comma b ≡ false) (etag_text n)
    (refl, (refl, (refl, (comma_fails n 15, (comma_fails n 14, (comma_fails n 13, (comma_fails n 12, (comma_fails n 11, (comma_fails n 10, (comma_fails n 9, (comma_fails n 8, (comma_fails n 7, (comma_fails n 6, (comma_fails n 5, (comma_fails n 4, (comma_fails n 3, (comma_fails n 2, (comma_fails n 1, (comma_fails n 0, (refl, tt)))))))))))))))))))))

sixteen_digits : (n : ℕ) → length (hex16 n) ≡ 16
unfolding hex16
sixteen_digits n = refl

spells_tag : (n : ℕ) → n < 2 ^ 64 → SpellsTag (etag_text n) n
unfolding etag_text
spells_tag n fits = record {
  weak = [];
  quote = codes "\"";
  digits = hex16 n;
  parts = trimmed_tag n;
  is_weak = inl refl;
  is_quote = inr refl;
  sixteen = sixteen_digits n;
  hex = all_hex16 n;
  value = hex16_is_read n fits;
}

pub etag_text_is_read : (n : ℕ) → n < 2 ^ 64 → etags_of (etag_text n) ≡ record { any = false; numbers = n ∷ [] }
unfolding etags_of
etag_text_is_read n fits =
    let none : bytes_eq (trimmed (etag_text n)) (codes "*") ≡ false = ap (λ t. bytes_eq t (codes "*")) (trimmed_tag n) ∙ no_star n in
    let number : item_number (etag_text n) ≡ Some n = (item_law (etag_text n) n).1 (spells_tag n fits) in
    let any : Tags = record { any = true; numbers = [] } in
    let listed : List ℕ → Tags = λ ns. record { any = false; numbers = ns } in
    ap (λ b. cond b any (listed (filter_map item_number (slice_split is_comma (etag_text n))))) none
    ∙ ap (λ items. listed (filter_map item_number items)) (one_item n)
    ∙ ap (λ o. listed (cons_option o [])) number
