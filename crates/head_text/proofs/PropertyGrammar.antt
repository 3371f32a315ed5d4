-- An item is read exactly where it spells a property, and refused as it should be.
use Rattle.std.proofs.Common.{◌≡◌, ℕ, zero, suc, ◌+◌, ◌<◌, Bool, true, false, cond, ltb, List, [], ◌∷◌, ◌++◌, length, get_or, take, drop, position, Option, Some, None, option_and_then, Result, Ok, Err, refl, sym, ap, subst, ◌∙◌, arith, length-append}
use Rattle.std.specs.List.{list_all, position_or_len}
use Rattle.std.specs.Result.{result_ok}
use Rattle.std.proofs.lemmas.Bool.Decides.{nat_tests, Decides-eqb}
use Rattle.std.proofs.lemmas.List.{take-append-drop}
use Rattle.std.proofs.lemmas.List.Sums.{passes_at_first}
use Rattle.std.proofs.Math.Seq.{take-append_seam, drop-append-add, drop-cons}
use Rattle.base64.specs.declared.decode.DecodeError.{DecodeError}
use Rattle.base64.specs.Engines.{standard}
use Rattle.base64.specs.GeneralPurpose.{decode_of, decoded_of, encode_of}
use Rattle.base64.proofs.EngineFacts.{decode_of-encode_of, decode_of_strict}
use Rattle.head_text.specs.declared.props_fault.PropsFault.{PropsFault}
use Rattle.head_text.specs.declared.props_fault.PropsFault.TheVariants.{BadPair, BadBase64, Twice, TooMany}
use Rattle.head_text.specs.ETags.{trimmed, without_front}
use Rattle.head_text.specs.Properties.{Property, is_name, is_name_byte, is_byte}
use Rattle.head_text.specs.PropertyTexts.{IsPair, SpellsProperty, is_equals, property_said, said_at, value_of, value_or_bad}
use Rattle.head_text.proofs.PropertyLemmas.{both_are, are_bytes}

-- ---- the first `=`

no_equals : (b : ℕ) → is_name_byte b ≡ true → is_equals b ≡ false
no_equals b e = grind (arith, nat_tests)

first_equals : (name value : List ℕ) → list_all is_name_byte name ≡ true → position_or_len is_equals (name ++ 61 ∷ value) ≡ length name
first_equals [] value e = refl
first_equals (b ∷ name) value e =
    let parts = both_are (is_name_byte b) (list_all is_name_byte name) e in
    rw (no_equals b parts.0, first_equals name value parts.1) (omega arith)

is_below : (a b : ℕ) → a < b → ltb a b ≡ true
is_below a b h = grind (arith, nat_tests)

equals_at : (name value : List ℕ) → list_all is_name_byte name ≡ true → position is_equals (name ++ 61 ∷ value) ≡ Some (length name)
equals_at name value e =
    let all = name ++ 61 ∷ value in
    ap (λ n. cond (ltb n (length all)) (Some n) None) (first_equals name value e)
    ∙ ap (λ b. cond b (Some (length name)) None) (is_below (length name) (length all) (omega (arith, length-append name (61 ∷ value))))

cut : (xs : List ℕ) (n : ℕ) → n < length xs → xs ≡ take n xs ++ get_or xs n 0 ∷ drop (n + 1) xs
cut xs n h =
    let next : suc n ≡ n + 1 = omega arith in
    sym (take-append-drop n xs) ∙ ap (λ ys. take n xs ++ ys) (drop-cons xs n 0 h ∙ ap (λ k. get_or xs n 0 ∷ drop k xs) next)

equals_there : (text : List ℕ) (at : ℕ) → position is_equals text ≡ Some at → text ≡ take at text ++ 61 ∷ drop (at + 1) text
equals_there text at =
    let n = position_or_len is_equals text in
    elim (ltb n (length text)) as (λ b. ltb n (length text) ≡ b → cond b (Some n) None ≡ Some at → text ≡ take at text ++ 61 ∷ drop (at + 1) text) [
      | true ↦ λ is e.
          let below : n < length text = grind (arith, nat_tests) in
          let same : n ≡ at = cc in
          let byte : get_or text n 0 ≡ 61 = (Decides-eqb (get_or text n 0) 61).0 (passes_at_first is_equals text 0 below) in
          subst (λ k. text ≡ take k text ++ 61 ∷ drop (k + 1) text) same
          (cut text n below ∙ ap (λ b. take n text ++ b ∷ drop (n + 1) text) byte)
      | false ↦ λ _ e. cc
    ] refl

-- ---- what is spelled is read

pub pair_said : (i : ℕ) (item name value : List ℕ) → is_name name ≡ true → trimmed item ≡ name ++ 61 ∷ value → property_said i item ≡ value_or_bad i name (value_of value)
unfolding property_said
pair_said i item name value named parts =
    let text = name ++ 61 ∷ value in
    ap (λ t. said_at i t (position is_equals t)) parts
    ∙ ap (said_at i text) (equals_at name value (both_are _ (list_all is_name_byte name) named).1)
    ∙ ap (λ t. cond (is_name t) (value_or_bad i t (value_of (drop (length name + 1) text))) (Err (BadPair i))) (take-append_seam name (61 ∷ value))
    ∙ ap (λ b. cond b (value_or_bad i name (value_of (drop (length name + 1) text))) (Err (BadPair i))) named
    ∙ ap (λ t. value_or_bad i name (value_of t)) (drop-append-add name (61 ∷ value) 1)

value_said : (value : List ℕ) → list_all is_byte value ≡ true → value_of (encode_of standard value) ≡ Some value
unfolding value_of decoded_of
value_said value all = rw (decode_of-encode_of standard value refl (are_bytes value all), all) refl

pub property_read : (i : ℕ) (item : List ℕ) (p : Property) → SpellsProperty item p → property_said i item ≡ Ok p
property_read i item p s =
    pair_said i item p.0 (encode_of standard p.1) s.0.0 s.1 ∙ ap (value_or_bad i p.0) (value_said p.1 s.0.1)

-- ---- what is read is spelled

all_take : (p : ℕ → Bool) (n : ℕ) (xs : List ℕ) → list_all p xs ≡ true → list_all p (take n xs) ≡ true
all_take p zero xs e = refl
all_take p (suc n) [] e = refl
all_take p (suc n) (x ∷ xs) e = let parts = both_are (p x) (list_all p xs) e in rw (parts.0) (all_take p n xs parts.1)

all_drop : (p : ℕ → Bool) (n : ℕ) (xs : List ℕ) → list_all p xs ≡ true → list_all p (drop n xs) ≡ true
all_drop p zero xs e = e
all_drop p (suc n) [] e = refl
all_drop p (suc n) (x ∷ xs) e = all_drop p n xs (both_are (p x) (list_all p xs) e).1

all_trimmed : (item : List ℕ) → list_all is_byte item ≡ true → list_all is_byte (trimmed item) ≡ true
unfolding trimmed
all_trimmed item e = all_take is_byte _ (without_front item) (all_drop is_byte _ item e)

ok_of : (r : Result (List ℕ) DecodeError) (v : List ℕ) → option_and_then (λ value. cond (list_all is_byte value) (Some value) None) (result_ok r) ≡ Some v
    → (r ≡ Ok v) × (list_all is_byte v ≡ true)
ok_of (Err d) v = λ e. (cc)
ok_of (Ok w) v =
    elim (list_all is_byte w) as (λ b. list_all is_byte w ≡ b → cond b (Some w) None ≡ Some v → (◌≡◌ {A = Result (List ℕ) DecodeError} (Ok w) (Ok v)) × (list_all is_byte v ≡ true)) [
      | true ↦ λ all e. let same : w ≡ v = (cc) in (ap Ok same, ap (list_all is_byte) (sym same) ∙ all)
      | false ↦ λ _ e. (cc)
    ] refl

value_is : (text v : List ℕ) → list_all is_byte text ≡ true → value_of text ≡ Some v → (text ≡ encode_of standard v) × (list_all is_byte v ≡ true)
unfolding value_of decoded_of
value_is text v bytes e =
    let p = ok_of (decode_of standard text) v e in
    (decode_of_strict standard text v (refl, refl) (are_bytes text bytes) p.0, p.1)

-- ---- what an item is

abbrev pub IsItemFault : ℕ → List ℕ → PropsFault → Type 0
IsItemFault i item (BadPair j) = (j ≡ i) × ¬ (IsPair item)
IsItemFault i item (BadBase64 j) = (j ≡ i) × IsPair item × ¬ ((p : Property) × SpellsProperty item p)
IsItemFault i item (Twice j) = ⊥
IsItemFault i item TooMany = ⊥

abbrev pub Said : ℕ → List ℕ → Result Property PropsFault → Type 0
Said i item (Ok p) = SpellsProperty item p
Said i item (Err f) = IsItemFault i item f

not_bad_pair : (i j : ℕ) (name : List ℕ) (o : Option (List ℕ)) → Err (BadPair j) ≡ value_or_bad i name o → ⊥
not_bad_pair i j name None e = (cc)
not_bad_pair i j name (Some v) e = (cc)

no_pair : (i j : ℕ) (item : List ℕ) → property_said i item ≡ Err (BadPair j) → ¬ (IsPair item)
no_pair i j item e pair = not_bad_pair i j pair.0 (value_of pair.1) (sym e ∙ pair_said i item pair.0 pair.1 pair.2 pair.3)

not_both : (f : PropsFault) (p : Property) (r : Result Property PropsFault) → r ≡ Err f → r ≡ Ok p → ⊥
not_both f p r e is = (cc)

no_property : (i : ℕ) (f : PropsFault) (item : List ℕ) → property_said i item ≡ Err f → ¬ ((p : Property) × SpellsProperty item p)
no_property i f item e s = not_both f s.0 (property_said i item) e (property_read i item s.0 s.1)

said_from : (i : ℕ) (item : List ℕ) (o : Option ℕ) → list_all is_byte item ≡ true → position is_equals (trimmed item) ≡ o → Said i item (said_at i (trimmed item) o)
unfolding property_said
said_from i item None bytes is = (refl, no_pair i i item (ap (said_at i (trimmed item)) is))
said_from i item (Some at) bytes is =
    let text = trimmed item in
    let parts : text ≡ take at text ++ 61 ∷ drop (at + 1) text = equals_there text at is in
    elim (is_name (take at text)) as (λ b. is_name (take at text) ≡ b → Said i item (cond b (value_or_bad i (take at text) (value_of (drop (at + 1) text))) (Err (BadPair i)))) [
      | true ↦ λ named. elim (value_of (drop (at + 1) text)) as (λ o. value_of (drop (at + 1) text) ≡ o → Said i item (value_or_bad i (take at text) o)) [
        | None ↦ λ none. (
          refl,
          (take at text, drop (at + 1) text, named, parts),
          no_property i (BadBase64 i) item (pair_said i item (take at text) (drop (at + 1) text) named parts ∙ ap (value_or_bad i (take at text)) none),
        )
        | Some v ↦ λ some.
            let p = value_is (drop (at + 1) text) v (all_drop is_byte (at + 1) text (all_trimmed item bytes)) some in
            ((named, p.1), parts ∙ ap (λ t. take at text ++ 61 ∷ t) p.0)
      ] refl
      | false ↦ λ unnamed. (
        refl,
        no_pair i i item (ap (said_at i text) is ∙ ap (λ b. cond b (value_or_bad i (take at text) (value_of (drop (at + 1) text))) (Err (BadPair i))) unnamed),
      )
    ] refl

pub said_is : (i : ℕ) (item : List ℕ) → list_all is_byte item ≡ true → Said i item (property_said i item)
unfolding property_said
said_is i item bytes = said_from i item (position is_equals (trimmed item)) bytes refl
