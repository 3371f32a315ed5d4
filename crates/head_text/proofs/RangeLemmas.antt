-- A text is read as a range exactly where it spells it.
use Rattle.std.proofs.Common.{rules, is_some, ◌≡◌, ℕ, suc, ◌+◌, ◌<◌, ◌≤◌, Bool, true, false, cond, ltb, ◌&&◌, nat_le, bytes_eq, List, [], ◌∷◌, ◌++◌, length, ◌==◌, take, drop, get_or, Option, None, Some, IfSome, refl, sym, ap, subst, ◌∙◌, arith, length-append}
use Rattle.std.specs.Char.{is_ascii_digit}
use Rattle.std.specs.Int.{IsInRange}
use Rattle.std.specs.List.{list_all, position, position_or_len}
use Rattle.std.specs.Str.Parse.{digits_value}
use Rattle.std.proofs.lemmas.Bool.{false≢true}
use Rattle.std.proofs.lemmas.Bool.Decides.{nat_tests, Decides-eqb}
use Rattle.std.proofs.lemmas.List.{take-append-drop}
use Rattle.std.proofs.lemmas.List.{get_or_append_left}
use Rattle.std.proofs.lemmas.List.Sums.{passes_at_first, position_or_len_is}
use Rattle.std.proofs.lemmas.Str.Parse.{IsNumeralModel, numerals_by_value, digit_at}
use Rattle.std.proofs.lemmas.Slice.Eq.{bytes_eq-Decides}
use Rattle.std.proofs.Math.Seq.{take-append_seam, drop-append-add, drop-cons, get_or-append_seam}
use Rattle.head_text.specs.declared.range.Range.{Range}
use Rattle.head_text.specs.Decimal.{decimal_value, is_decimal}
use Rattle.head_text.specs.Ranges.{SpellsRange, SpellsEnd, unit_text, is_hyphen, range_of, bytes_range, cut_at, from_or_none, with_end, end_or_none}

both_are : (a b : Bool) → (a && b) ≡ true → (a ≡ true) × (b ≡ true)
both_are true b p = (refl, p)
both_are false b p = absurd (false≢true p)

-- ---- what is spelled is read

no_hyphen : (b : ℕ) → IsInRange 48 57 b → is_hyphen b ≡ false
no_hyphen b h = let from : 48 ≤ b = h.0 in grind (arith, nat_tests)

own : IsNumeralModel (λ ds. list_all is_ascii_digit ds ≡ true) (digits_value 10)
own = numerals_by_value _ (search rules)

first_hyphen : (first last : List ℕ) → list_all is_ascii_digit first ≡ true → position_or_len is_hyphen (first ++ 45 ∷ last) ≡ length first
first_hyphen first last e =
    let all = first ++ 45 ∷ last in
    let before : (k : ℕ) → k < length first → is_hyphen (get_or all k 0) ≡ false =
    λ k below. ap is_hyphen (get_or_append_left first (45 ∷ last) 0 k below) ∙ no_hyphen (get_or first k 0) (digit_at first k (own.to first e) below) in
    let there : is_hyphen (get_or all (length first) 0) ≡ true = ap is_hyphen (get_or-append_seam first 45 last 0) in
    position_or_len_is is_hyphen all (length first) 0 (omega (arith, length-append first (45 ∷ last))) before (λ _. there)

is_below : (a b : ℕ) → a < b → ltb a b ≡ true
is_below a b h = grind (arith, nat_tests)

is_within : (a b : ℕ) → a ≤ b → nat_le a b ≡ true
is_within a b h = grind (arith, nat_tests)

hyphen_at : (first last : List ℕ) → list_all is_ascii_digit first ≡ true → position is_hyphen (first ++ 45 ∷ last) ≡ Some (length first)
hyphen_at first last e =
    let all = first ++ 45 ∷ last in
    ap (λ n. cond (ltb n (length all)) (Some n) None) (first_hyphen first last e)
    ∙ ap (λ b. cond b (Some (length first)) None) (is_below (length first) (length all) (omega (arith, length-append first (45 ∷ last))))

are_digits : (text : List ℕ) (n : ℕ) → decimal_value text ≡ Some n → list_all is_ascii_digit text ≡ true
are_digits text n =
    elim (is_decimal text) as (λ b. is_decimal text ≡ b → cond b (Some (digits_value 10 text)) None ≡ Some n → list_all is_ascii_digit text ≡ true) [
      | true ↦ λ is _. (both_are (nat_le 1 (length text) && nat_le (length text) 19) (list_all is_ascii_digit text) is).1
      | false ↦ λ _ e. cc
    ] refl

some_end : (x : ℕ) (xs : List ℕ) (from : ℕ) → with_end from (x ∷ xs) ≡ end_or_none from (decimal_value (x ∷ xs))
some_end x xs from =
    let filled : (length (x ∷ xs) == 0) ≡ false = grind (arith, nat_tests) in
    ap (λ b. cond b (Some (record { from = from; to = None })) (end_or_none from (decimal_value (x ∷ xs)))) filled

end_is_read : (last : List ℕ) (from : ℕ) (to : Option ℕ) → SpellsEnd last from to → with_end from last ≡ Some (record { from = from; to = to })
end_is_read last from None s = ap (with_end from) s
end_is_read [] from (Some to) s = absurd (false≢true (ap is_some s.0))
end_is_read (x ∷ xs) from (Some to) s =
    some_end x xs from ∙ ap (end_or_none from) s.0 ∙ ap (λ b. cond b (Some (record { from = from; to = Some to })) None) (is_within from to s.1)

pub spelled_is_read : (text : List ℕ) (range : Range) → SpellsRange text range → range_of text ≡ Some range
spelled_is_read text range s =
    let bytes = s.first ++ 45 ∷ s.last in
    ap range_of s.parts
    ∙ ap (λ o. cut_at o bytes) (hyphen_at s.first s.last (are_digits s.first range.from s.from))
    ∙ ap (λ t. from_or_none (decimal_value t) (drop (length s.first + 1) bytes)) (take-append_seam s.first (45 ∷ s.last))
    ∙ ap (λ o. from_or_none o (drop (length s.first + 1) bytes)) s.from
    ∙ ap (with_end range.from) (drop-append-add s.first (45 ∷ s.last) 1)
    ∙ end_is_read s.last range.from range.to s.to

-- ---- what is read is spelled

cut : (xs : List ℕ) (n : ℕ) → n < length xs → xs ≡ take n xs ++ get_or xs n 0 ∷ drop (n + 1) xs
cut xs n h =
    let next : suc n ≡ n + 1 = omega arith in
    sym (take-append-drop n xs) ∙ ap (λ ys. take n xs ++ ys) (drop-cons xs n 0 h ∙ ap (λ k. get_or xs n 0 ∷ drop k xs) next)

is_hyphen_there : (bytes : List ℕ) (at : ℕ) → position is_hyphen bytes ≡ Some at → bytes ≡ take at bytes ++ 45 ∷ drop (at + 1) bytes
is_hyphen_there bytes at =
    let n = position_or_len is_hyphen bytes in
    elim (ltb n (length bytes)) as (λ b. ltb n (length bytes) ≡ b → cond b (Some n) None ≡ Some at → bytes ≡ take at bytes ++ 45 ∷ drop (at + 1) bytes) [
      | true ↦ λ is e.
          let below : n < length bytes = grind (arith, nat_tests) in
          let same : n ≡ at = cc in
          let byte : get_or bytes n 0 ≡ 45 = (Decides-eqb (get_or bytes n 0) 45).0 (passes_at_first is_hyphen bytes 0 below) in
          subst (λ k. bytes ≡ take k bytes ++ 45 ∷ drop (k + 1) bytes) same
          (cut bytes n below ∙ ap (λ b. take n bytes ++ b ∷ drop (n + 1) bytes) byte)
      | false ↦ λ _ e. cc
    ] refl

end_spells : (text first last : List ℕ) (from : ℕ) → text ≡ unit_text ++ (first ++ 45 ∷ last) → decimal_value first ≡ Some from →
    IfSome (with_end from last) (SpellsRange text)
end_spells text first [] from parts e = record { first = first; last = []; parts = parts; from = e; to = refl }
end_spells text first (x ∷ xs) from parts e =
    subst (λ r. IfSome r (SpellsRange text)) (sym (some_end x xs from))
    (elim (decimal_value (x ∷ xs)) as (λ o. decimal_value (x ∷ xs) ≡ o → IfSome (end_or_none from o) (SpellsRange text)) [
      | None ↦ λ _. tt
      | Some to ↦ λ is.
          elim (nat_le from to) as (λ b. nat_le from to ≡ b → IfSome (cond b (Some (record { from = from; to = Some to })) None) (SpellsRange text)) [
            | true ↦ λ below. record { first = first; last = x ∷ xs; parts = parts; from = e; to = (is, grind (arith, nat_tests)) }
            | false ↦ λ _. tt
          ] refl
    ] refl)

cut_spells : (text bytes : List ℕ) → text ≡ unit_text ++ bytes → IfSome (bytes_range bytes) (SpellsRange text)
cut_spells text bytes parts =
    elim (position is_hyphen bytes) as (λ o. position is_hyphen bytes ≡ o → IfSome (cut_at o bytes) (SpellsRange text)) [
      | None ↦ λ _. tt
      | Some at ↦ λ is.
          elim (decimal_value (take at bytes)) as (λ o. decimal_value (take at bytes) ≡ o → IfSome (from_or_none o (drop (at + 1) bytes)) (SpellsRange text)) [
            | None ↦ λ _. tt
            | Some from ↦ λ e.
                end_spells text (take at bytes) (drop (at + 1) bytes) from (parts ∙ ap (λ b. unit_text ++ b) (is_hyphen_there bytes at is)) e
          ] refl
    ] refl

pub read_is_spelled : (text : List ℕ) → IfSome (range_of text) (SpellsRange text)
read_is_spelled text =
    elim (bytes_eq (take 6 text) unit_text) as (λ b. bytes_eq (take 6 text) unit_text ≡ b → IfSome (cond b (bytes_range (drop 6 text)) None) (SpellsRange text)) [
      | true ↦ λ is.
          cut_spells text (drop 6 text) (sym (take-append-drop 6 text) ∙ ap (λ t. t ++ drop 6 text) ((bytes_eq-Decides (take 6 text) unit_text).0 is))
      | false ↦ λ _. tt
    ] refl
