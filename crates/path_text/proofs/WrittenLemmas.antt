-- What is written escapes its bytes, and is decoded to them.
use Rattle.std.proofs.Common.{◌≡◌, ◌≢◌, ℕ, ◌+◌, ◌<◌, ◌/◌, ◌%◌, Bool, true, false, not, cond, eqb, List, [], ◌∷◌, ◌++◌, map, Some, None, option_map, refl, sym, ap, ◌∙◌, subst, ⊎_elim, append-nil, append_assoc, arith}
use Rattle.std.specs.List.{list_all, join_with_byte}
use Rattle.std.specs.Char.{is_ascii_hexdigit}
use Rattle.std.specs.Fmt.{digit_glyph}
use Rattle.std.proofs.lemmas.Bool.{false≢true, cases_Bool}
use Rattle.std.proofs.lemmas.Bool.Decides.{nat_tests, eqb_tells}
use Rattle.std.proofs.lemmas.List.Folds.{list_all-append}
use Rattle.percent_encoding.specs.Percent.{percent_decode, percent_encode_byte}
use Rattle.percent_encoding.proofs.PercentLemmas.{percent_decode-nil, percent_decode_not_percent, percent_decode-percent_encode_byte}
use Rattle.path_text.specs.Texts.{path_text, KeepsLimits}
use Rattle.path_text.specs.Targets.{bad_escape, begins_badly, is_question_mark, is_unreserved, escaped, escaped_byte, written_path}
use Rattle.path_text.proofs.PlaceLemmas.{both_parts}
use Rattle.path_text.proofs.NameLemmas.{is_byte, path_bytes}

-- a text without a bad escape and without `?`, and what it is decoded to
pub record Clean (text bytes : List ℕ) : Type 0 where
  pub escapes : bad_escape text ≡ None
  pub decoded : percent_decode text ≡ bytes
  pub no_mark : list_all (λ b. not (is_question_mark b)) text ≡ true

differ : (a b : ℕ) → a ≢ b → eqb a b ≡ false
differ a b apart = ⊎_elim (λ e. absurd (apart e.1)) (λ e. e.0) (eqb_tells a b)

goes_on : (b : ℕ) (rest : List ℕ) → begins_badly (b ∷ rest) ≡ false → bad_escape rest ≡ None → bad_escape (b ∷ rest) ≡ None
unfolding bad_escape
goes_on b rest fine clean =
    ap (λ t. cond t (Some 0) (option_map (λ at. at + 1) (bad_escape rest))) fine ∙ ap (option_map (λ at. at + 1)) clean

fine_kept : (b : ℕ) (rest : List ℕ) → b ≢ 37 → begins_badly (b ∷ rest) ≡ false
fine_kept b rest apart = rw (differ b 37 apart) refl

no_mark_more : (b : ℕ) (rest : List ℕ) → b ≢ 63 → list_all (λ x. not (is_question_mark x)) rest ≡ true → list_all (λ x. not (is_question_mark x)) (b ∷ rest) ≡ true
no_mark_more b rest apart more = rw (differ b 63 apart) more

clean_nil : Clean [] []
unfolding bad_escape
clean_nil = record { escapes = refl; decoded = percent_decode-nil; no_mark = refl }

clean_kept : (b : ℕ) (rest more : List ℕ) → b ≢ 37 → b ≢ 63 → Clean rest more → Clean (b ∷ rest) (b ∷ more)
clean_kept b rest more percent mark clean = record {
  escapes = goes_on b rest (fine_kept b rest percent) clean.escapes;
  decoded = percent_decode_not_percent b rest percent ∙ ap (λ x. b ∷ x) clean.decoded;
  no_mark = no_mark_more b rest mark clean.no_mark;
}

glyph_is_hex : (d : ℕ) → d < 16 → is_ascii_hexdigit (digit_glyph true d) ≡ true
glyph_is_hex d small = grind (arith, nat_tests)

not_hex : (c d : ℕ) → is_ascii_hexdigit d ≡ false → is_ascii_hexdigit c ≡ true → c ≢ d
not_hex c d other hex e = false≢true (sym other ∙ ap is_ascii_hexdigit (sym e) ∙ hex)

fine_escape : (high low : ℕ) (rest : List ℕ) → is_ascii_hexdigit high ≡ true → is_ascii_hexdigit low ≡ true → begins_badly (37 ∷ high ∷ low ∷ rest) ≡ false
fine_escape high low rest h l = rw (h, l) refl

clean_escape : (b : ℕ) (rest more : List ℕ) → b < 256 → Clean rest more → Clean (percent_encode_byte b ++ rest) (b ∷ more)
unfolding percent_encode_byte
clean_escape b rest more small clean =
    let high = glyph_is_hex (b / 16 % 16) (omega arith) in
    let low = glyph_is_hex (b % 16) (omega arith) in
    let after_low = goes_on (digit_glyph true (b % 16)) rest (fine_kept (digit_glyph true (b % 16)) rest (not_hex (digit_glyph true (b % 16)) 37 refl low)) clean.escapes in
    let after_high = goes_on (digit_glyph true (b / 16 % 16)) (digit_glyph true (b % 16) ∷ rest) (fine_kept (digit_glyph true (b / 16 % 16)) (digit_glyph true (b % 16) ∷ rest) (not_hex (digit_glyph true (b / 16 % 16)) 37 refl high)) after_low in
    record {
      escapes = goes_on 37 (digit_glyph true (b / 16 % 16) ∷ digit_glyph true (b % 16) ∷ rest) (fine_escape (digit_glyph true (b / 16 % 16)) (digit_glyph true (b % 16)) rest high low) after_high;
      decoded = percent_decode-percent_encode_byte b rest small ∙ ap (λ x. b ∷ x) clean.decoded;
      no_mark = no_mark_more (digit_glyph true (b / 16 % 16)) (digit_glyph true (b % 16) ∷ rest) (not_hex (digit_glyph true (b / 16 % 16)) 63 refl high) (no_mark_more (digit_glyph true (b % 16)) rest (not_hex (digit_glyph true (b % 16)) 63 refl low) clean.no_mark);
    }

reserved : (b d : ℕ) → is_unreserved d ≡ false → is_unreserved b ≡ true → b ≢ d
reserved b d other kept e = false≢true (sym other ∙ ap is_unreserved (sym e) ∙ kept)

clean_byte : (b : ℕ) (rest more : List ℕ) → is_byte b ≡ true → Clean rest more → Clean (escaped_byte b ++ rest) (b ∷ more)
clean_byte b rest more small clean =
    let fits : b < 256 = grind (arith, nat_tests) in
    ⊎_elim
    (λ kept. subst (λ (u : Bool). Clean (cond u (b ∷ []) (percent_encode_byte b) ++ rest) (b ∷ more)) (sym kept) (clean_kept b rest more (reserved b 37 refl kept) (reserved b 63 refl kept) clean))
    (λ other. subst (λ (u : Bool). Clean (cond u (b ∷ []) (percent_encode_byte b) ++ rest) (b ∷ more)) (sym other) (clean_escape b rest more fits clean))
    (cases_Bool (is_unreserved b))

clean_part : (part rest more : List ℕ) → list_all is_byte part ≡ true → Clean rest more → Clean (escaped part ++ rest) (part ++ more)
unfolding escaped
clean_part [] rest more small clean = clean
clean_part (b ∷ part) rest more small clean =
    let parts = both_parts (is_byte b) (list_all is_byte part) small in
    rw append_assoc (clean_byte b (escaped part ++ rest) (part ++ more) parts.0 (clean_part part rest more parts.1 clean))

clean_join : (parts : List (List ℕ)) → list_all is_byte (join_with_byte 47 parts) ≡ true → Clean (join_with_byte 47 (map escaped parts)) (join_with_byte 47 parts)
clean_join [] small = clean_nil
clean_join (x ∷ []) small =
    let one = clean_part x [] [] small clean_nil in
    subst (λ (t : List ℕ). Clean t x) (append-nil (escaped x)) (subst (λ (t : List ℕ). Clean (escaped x ++ []) t) (append-nil x) one)
clean_join (x ∷ y ∷ parts) small =
    let cut = both_parts (list_all is_byte x) (list_all is_byte (47 ∷ join_with_byte 47 (y ∷ parts))) (sym (list_all-append is_byte x (47 ∷ join_with_byte 47 (y ∷ parts))) ∙ small) in
    clean_part x (47 ∷ join_with_byte 47 (map escaped (y ∷ parts))) (47 ∷ join_with_byte 47 (y ∷ parts)) cut.0
    (clean_kept 47 _ _ (λ e. omega arith) (λ e. omega arith) (clean_join (y ∷ parts) cut.1))

pub written_clean : (path : List (List ℕ)) → KeepsLimits path → Clean (written_path path) (path_text path)
unfolding written_path
written_clean path limits =
    clean_kept 47 _ _ (λ e. omega arith) (λ e. omega arith) (clean_join path (path_bytes path limits.parts))
