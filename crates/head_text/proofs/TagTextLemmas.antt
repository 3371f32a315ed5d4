-- An item of a list of entity tags has a number exactly where it spells its tag.
use Rattle.std.proofs.Common.{codes, ◌≡◌, ◌↔◌, ◌⊎◌, inl, inr, ℕ, suc, ◌-◌, ◌≤◌, Bool, true, false, ◌&&◌, ◌==◌, cond, nat_le, bytes_eq, List, [], ◌∷◌, ◌++◌, length, get_or, slice_index, take, drop, Some, None, refl, sym, ap, ◌∙◌, append-nil, arith, length-append}
use Rattle.std.specs.Char.{is_ascii_hexdigit}
use Rattle.std.specs.List.{list_all}
use Rattle.std.specs.Str.Parse.{digits_value}
use Rattle.std.proofs.lemmas.Bool.{false≢true}
use Rattle.std.proofs.lemmas.Bool.Decides.{nat_tests, Decides-eqb}
use Rattle.std.proofs.lemmas.List.{take-append-drop, drop_all, length-drop}
use Rattle.std.proofs.lemmas.Slice.Eq.{bytes_eq-Decides}
use Rattle.std.proofs.Math.Seq.{take-append_seam, get_or-append_seam, drop-cons}
use Rattle.head_text.specs.ETags.{is_quoted, item_number, tag_number, trimmed, without_quotes, without_weak}
use Rattle.head_text.specs.TagTexts.{SpellsTag}
use Rattle.head_text.proofs.PropertyLemmas.{both_are}

-- ---- what is spelled has its number

never : (a c : Bool) → ((a && false) && c) ≡ false
never true c = refl
never false c = refl

always : (a c : Bool) → a ≡ true → c ≡ true → ((a && true) && c) ≡ true
always true true p q = refl
always true false p q = absurd (false≢true q)
always false c p q = absurd (false≢true p)

abbrev number_text : List ℕ → List ℕ
number_text digits = codes "0x" ++ digits

number_is : (digits : List ℕ) → length digits ≡ 16 → list_all is_ascii_hexdigit digits ≡ true → tag_number (number_text digits) ≡ Some (digits_value 16 digits)
unfolding tag_number
number_is digits sixteen hex =
    let long : (length (number_text digits) == 18) ≡ true = long_is (length digits) sixteen in
    ap (λ b. cond (b && list_all is_ascii_hexdigit digits) (Some (digits_value 16 digits)) None) (both_true (length (number_text digits) == 18) long)
    ∙ ap (λ b. cond b (Some (digits_value 16 digits)) None) hex
  where
    long_is : (n : ℕ) → n ≡ 16 → (suc (suc n) == 18) ≡ true
    long_is n e = grind (arith, nat_tests)

    both_true : (b : Bool) → b ≡ true → (b && true) ≡ true
    both_true true e = refl
    both_true false e = e

no_quotes : (digits : List ℕ) → without_quotes (number_text digits) ≡ number_text digits
unfolding without_quotes
no_quotes digits =
    let text = number_text digits in
    ap (λ b. cond b (drop 1 (take (length text - 1) text)) text) (never (nat_le 2 (length text)) (slice_index text (length text - 1) == 34))

quotes_off : (body : List ℕ) → without_quotes (34 ∷ (body ++ 34 ∷ [])) ≡ body
unfolding without_quotes
quotes_off body =
    let text = 34 ∷ (body ++ 34 ∷ []) in
    let long = length-append body (34 ∷ []) in
    let last : length text - 1 ≡ length (34 ∷ body) = omega (arith, long) in
    let two : nat_le 2 (length text) ≡ true = two_within (length text) (omega (arith, long)) in
    let byte : (slice_index text (length text - 1) == 34) ≡ true =
    ap (λ n. slice_index text n == 34) last ∙ ap (λ b. b == 34) (get_or-append_seam (34 ∷ body) 34 [] 0) in
    ap (λ b. cond b (drop 1 (take (length text - 1) text)) text) (always (nat_le 2 (length text)) (slice_index text (length text - 1) == 34) two byte)
    ∙ ap (λ n. drop 1 (take n text)) last ∙ ap (drop 1) (take-append_seam (34 ∷ body) (34 ∷ []))
  where
    two_within : (n : ℕ) → 2 ≤ n → nat_le 2 n ≡ true
    two_within n h = grind (arith, nat_tests)

weak_off : (rest : List ℕ) → without_weak (codes "W/" ++ rest) ≡ rest
unfolding without_weak
weak_off rest = refl

no_weak_number : (digits : List ℕ) → without_weak (number_text digits) ≡ number_text digits
unfolding without_weak
no_weak_number digits = refl

no_weak_quote : (body : List ℕ) → without_weak (34 ∷ (number_text body ++ 34 ∷ [])) ≡ 34 ∷ (number_text body ++ 34 ∷ [])
unfolding without_weak
no_weak_quote body = refl

abbrev tag : List ℕ → List ℕ → List ℕ
tag quote digits = quote ++ (number_text digits ++ quote)

quotes_gone : (quote digits : List ℕ) → (quote ≡ []) ⊎ (quote ≡ codes "\"") → without_quotes (tag quote digits) ≡ number_text digits
quotes_gone quote digits is = elim is as (λ _. without_quotes (tag quote digits) ≡ number_text digits) [
  | inl none ↦ ap (λ q. without_quotes (tag q digits)) none ∙ ap without_quotes (append-nil (number_text digits)) ∙ no_quotes digits
  | inr there ↦ ap (λ q. without_quotes (tag q digits)) there ∙ quotes_off (number_text digits)
]

no_weak : (quote digits : List ℕ) → (quote ≡ []) ⊎ (quote ≡ codes "\"") → without_weak (tag quote digits) ≡ tag quote digits
no_weak quote digits is = elim is as (λ _. without_weak (tag quote digits) ≡ tag quote digits) [
  | inl none ↦
      let bare : tag quote digits ≡ number_text digits = ap (λ q. tag q digits) none ∙ append-nil (number_text digits) in
      ap without_weak bare ∙ no_weak_number digits ∙ sym bare
  | inr there ↦ let quoted = ap (λ q. tag q digits) there in ap without_weak quoted ∙ no_weak_quote digits ∙ sym quoted
]

weak_gone : (weak quote digits : List ℕ) → (weak ≡ []) ⊎ (weak ≡ codes "W/") → (quote ≡ []) ⊎ (quote ≡ codes "\"") → without_weak (weak ++ tag quote digits) ≡ tag quote digits
weak_gone weak quote digits is_weak is_quote = elim is_weak as (λ _. without_weak (weak ++ tag quote digits) ≡ tag quote digits) [
  | inl none ↦ ap (λ w. without_weak (w ++ tag quote digits)) none ∙ no_weak quote digits is_quote
  | inr there ↦ ap (λ w. without_weak (w ++ tag quote digits)) there ∙ weak_off (tag quote digits)
]

spelled_has_number : (item : List ℕ) (number : ℕ) → SpellsTag item number → item_number item ≡ Some number
spelled_has_number item number s =
    ap (λ t. tag_number (without_quotes (without_weak t))) s.parts
    ∙ ap (λ t. tag_number (without_quotes t)) (weak_gone s.weak s.quote s.digits s.is_weak s.is_quote)
    ∙ ap tag_number (quotes_gone s.quote s.digits s.is_quote)
    ∙ number_is s.digits s.sixteen s.hex ∙ ap Some s.value

-- ---- what has a number is spelled

weak_parts : (t : List ℕ) → (weak : List ℕ) × ((weak ≡ []) ⊎ (weak ≡ codes "W/")) × (t ≡ weak ++ without_weak t)
unfolding without_weak
weak_parts t =
    elim (bytes_eq (take 2 t) (codes "W/")) as (λ b. bytes_eq (take 2 t) (codes "W/") ≡ b → (weak : List ℕ) × ((weak ≡ []) ⊎ (weak ≡ codes "W/")) × (t ≡ weak ++ cond b (drop 2 t) t)) [
      | true ↦ λ is. (codes "W/", inr refl, sym (take-append-drop 2 t) ∙ ap (λ f. f ++ drop 2 t) ((bytes_eq-Decides (take 2 t) (codes "W/")).0 is))
      | false ↦ λ _. ([], inl refl, refl)
    ] refl

within_quotes : (t : List ℕ) → is_quoted t ≡ true → t ≡ 34 ∷ (drop 1 (take (length t - 1) t) ++ 34 ∷ [])
within_quotes [] e = absurd (false≢true e)
within_quotes (a ∷ []) e = absurd (false≢true e)
within_quotes (a ∷ b ∷ rest) e =
    let t = a ∷ b ∷ rest in
    let outer = both_are (nat_le 2 (length t) && a == 34) (slice_index t (length t - 1) == 34) e in
    let first : a ≡ 34 = (Decides-eqb a 34).0 (both_are (nat_le 2 (length t)) (a == 34) outer.0).1 in
    let last : length t - 1 ≡ suc (length rest) = omega arith in
    let byte : get_or t (suc (length rest)) 0 ≡ 34 = ap (λ n. get_or t n 0) (sym last) ∙ (Decides-eqb (slice_index t (length t - 1)) 34).0 outer.1 in
    let end : drop (suc (length rest)) t ≡ 34 ∷ [] =
    drop-cons t (suc (length rest)) 0 (omega arith) ∙ (λ i. byte i ∷ drop_all (suc (suc (length rest))) t (omega arith) i) in
    sym (take-append-drop (suc (length rest)) t) ∙ ap (λ x. take (suc (length rest)) t ++ x) end
    ∙ ap (λ x. x ∷ (take (length rest) (b ∷ rest) ++ 34 ∷ [])) first
    ∙ ap (λ n. 34 ∷ (drop 1 (take n t) ++ 34 ∷ [])) (sym last)

quote_parts : (t : List ℕ) → (quote : List ℕ) × ((quote ≡ []) ⊎ (quote ≡ codes "\"")) × (t ≡ quote ++ (without_quotes t ++ quote))
unfolding without_quotes
quote_parts t =
    elim (is_quoted t) as (λ b. is_quoted t ≡ b
    → (quote : List ℕ) × ((quote ≡ []) ⊎ (quote ≡ codes "\"")) × (t ≡ quote ++ (cond b (drop 1 (take (length t - 1) t)) t ++ quote))) [
      | true ↦ λ is. (codes "\"", inr refl, within_quotes t is)
      | false ↦ λ _. ([], inl refl, sym (append-nil t))
    ] refl

number_parts : (t : List ℕ) (n : ℕ) → tag_number t ≡ Some n
    → (t ≡ number_text (drop 2 t)) × (length (drop 2 t) ≡ 16) × (list_all is_ascii_hexdigit (drop 2 t) ≡ true) × (digits_value 16 (drop 2 t) ≡ n)
unfolding tag_number
number_parts t n =
    let test = length t == 18 && bytes_eq (take 2 t) (codes "0x") && list_all is_ascii_hexdigit (drop 2 t) in
    elim test as (λ b. test ≡ b → cond b (Some (digits_value 16 (drop 2 t))) None ≡ Some n
    → (t ≡ number_text (drop 2 t)) × (length (drop 2 t) ≡ 16) × (list_all is_ascii_hexdigit (drop 2 t) ≡ true) × (digits_value 16 (drop 2 t) ≡ n)) [
      | true ↦ λ is e.
          let outer = both_are (length t == 18 && bytes_eq (take 2 t) (codes "0x")) (list_all is_ascii_hexdigit (drop 2 t)) is in
          let inner = both_are (length t == 18) (bytes_eq (take 2 t) (codes "0x")) outer.0 in
          let long : length t ≡ 18 = (Decides-eqb (length t) 18).0 inner.0 in
          let left = length-drop 2 t in
          let value : digits_value 16 (drop 2 t) ≡ n = (cc) in (
            sym (take-append-drop 2 t) ∙ ap (λ f. f ++ drop 2 t) ((bytes_eq-Decides (take 2 t) (codes "0x")).0 inner.1),
            omega (arith, long, left),
            outer.1,
            value,
          )
      | false ↦ λ _ e. (cc)
    ] refl

number_is_spelled : (item : List ℕ) (number : ℕ) → item_number item ≡ Some number → SpellsTag item number
number_is_spelled item number e =
    let weak = weak_parts (trimmed item) in
    let quote = quote_parts (without_weak (trimmed item)) in
    let body = number_parts (without_quotes (without_weak (trimmed item))) number e in
    record {
      weak = weak.0;
      quote = quote.0;
      digits = drop 2 (without_quotes (without_weak (trimmed item)));
      parts = weak.2 ∙ ap (λ t. weak.0 ++ t) (quote.2 ∙ ap (λ t. quote.0 ++ (t ++ quote.0)) body.0);
      is_weak = weak.1;
      is_quote = quote.1;
      sixteen = body.1;
      hex = body.2;
      value = body.3;
    }

pub item_law : (item : List ℕ) (number : ℕ) → ((item_number item ≡ Some number) ↔ SpellsTag item number)
item_law item number = (number_is_spelled item number, spelled_has_number item number)
