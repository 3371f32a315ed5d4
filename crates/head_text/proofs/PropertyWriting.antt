-- What is written of properties is read back.
use Rattle.std.proofs.Common.{◌≡◌, ℕ, zero, suc, ◌+◌, ◌*◌, ◌/◌, ◌%◌, ◌-◌, ◌<◌, ◌≤◌, Bool, true, false, not, ◌&&◌, ◌==◌, cond, List, [], ◌∷◌, ◌++◌, map, length, get_or, slice_index, take, drop, replicate, reverse, Vec, Ok, refl, sym, ap, subst, ◌∙◌, append_assoc, arith}
use Rattle.std.specs.declared.alloc.Global.{Global}
use Rattle.std.specs.List.{list_all, slice_split, onto_first, join_with_byte, AllZip, AllByRecursion, prefix_len}
use Rattle.std.proofs.lemmas.Bool.{false≢true}
use Rattle.std.proofs.lemmas.Bool.Decides.{nat_tests}
use Rattle.std.proofs.lemmas.List.{take_more, take_all, map-append}
use Rattle.std.proofs.lemmas.List.Folds.{list_all-append}
use Rattle.std.proofs.lemmas.List.Sorted.{IsPermutation-refl, IsPermutation-reverse, All-permutation}
use Rattle.std.proofs.lemmas.List.Elements.{recursion_from_All, All-from_recursion}
use Rattle.base64.specs.Engines.{standard}
use Rattle.base64.specs.GeneralPurpose.{encode_of}
use Rattle.base64.specs.Rfc4648.{encode_symbols, padding_len}
use Rattle.base64.proofs.Tables.{all_below_at}
use Rattle.head_text.specs.ETags.{is_blank, is_comma, trimmed, without_back}
use Rattle.head_text.specs.Properties.{Property, IsProperty, IsProperties, is_name_byte, is_byte, property_of}
use Rattle.head_text.specs.PropertyTexts.{SpellsProperty, IsPropertiesText, items_of, property_text, properties_of, properties_text}
use Rattle.head_text.proofs.PropertyLemmas.{both, both_are, are_bytes}
use Rattle.head_text.proofs.PropertyAnswers.{only_read}

-- ---- bytes that stand in the text of a property: no comma, no space and no tab

abbrev is_plain : ℕ → Bool
is_plain b = not (is_comma b) && not (is_blank b)

abbrev IsPlain : List ℕ → Type 0
IsPlain t = list_all is_plain t ≡ true

plain-append : (s t : List ℕ) → IsPlain s → IsPlain t → IsPlain (s ++ t)
plain-append s t p q = list_all-append is_plain s t ∙ both _ _ p q

plain_byte : (b : ℕ) → is_name_byte b ≡ true → is_plain b ≡ true
plain_byte b e = grind (arith, nat_tests)

plain_name : (t : List ℕ) → list_all is_name_byte t ≡ true → IsPlain t
plain_name [] e = refl
plain_name (b ∷ t) e = let p = both_are (is_name_byte b) _ e in both _ _ (plain_byte b p.0) (plain_name t p.1)

abbrev symbol : ℕ → ℕ
symbol k = slice_index (standard.encode_table) k

plain_symbol : (k : ℕ) → k < 64 → is_plain (symbol k) ≡ true
plain_symbol k below = all_below_at (λ k. is_plain (symbol k)) 64 k refl below

plain_symbols : (m : List ℕ) → list_all is_byte m ≡ true → IsPlain (encode_symbols (standard.encode_table) m)
unfolding encode_symbols
plain_symbols [] e = refl
plain_symbols (a ∷ []) e =
    let la = are_bytes (a ∷ []) e 0 in
    both _ _ (plain_symbol (a / 4) (omega (arith, la))) (both _ _ (plain_symbol (a % 4 * 16) (omega (arith, la))) refl)
plain_symbols (a ∷ b ∷ []) e =
    let la = are_bytes (a ∷ b ∷ []) e 0 in
    let lb = are_bytes (a ∷ b ∷ []) e 1 in
    both _ _ (plain_symbol (a / 4) (omega (arith, la))) (both _ _ (plain_symbol (a % 4 * 16 + b / 16) (omega (arith, la, lb)))
    (both _ _ (plain_symbol (b % 16 * 4) (omega (arith, lb))) refl))
plain_symbols (a ∷ b ∷ c ∷ m) e =
    let la = are_bytes (a ∷ b ∷ c ∷ m) e 0 in
    let lb = are_bytes (a ∷ b ∷ c ∷ m) e 1 in
    let lc = are_bytes (a ∷ b ∷ c ∷ m) e 2 in
    let rest = (both_are (is_byte c) _ (both_are (is_byte b) _ (both_are (is_byte a) _ e).1).1).1 in
    both _ _ (plain_symbol (a / 4) (omega (arith, la))) (both _ _ (plain_symbol (a % 4 * 16 + b / 16) (omega (arith, la, lb)))
    (both _ _ (plain_symbol (b % 16 * 4 + c / 64) (omega (arith, lb, lc))) (both _ _ (plain_symbol (c % 64) (omega (arith, lc))) (plain_symbols m rest))))

plain_padding : (n : ℕ) → IsPlain (replicate n 61)
plain_padding zero = refl
plain_padding (suc n) = plain_padding n

plain_value : (m : List ℕ) → list_all is_byte m ≡ true → IsPlain (encode_of standard m)
plain_value m e = plain-append (encode_symbols (standard.encode_table) m) (replicate (padding_len (length m)) 61) (plain_symbols m e) (plain_padding (padding_len (length m)))

plain_text : (p : Property) → IsProperty p → IsPlain (property_text p)
plain_text p h = plain-append p.0 (61 ∷ encode_of standard p.1) (plain_name p.0 (both_are _ (list_all is_name_byte p.0) h.0).1) (plain_value p.1 h.1)

-- ---- nothing is trimmed

no_front : (t : List ℕ) → IsPlain t → prefix_len is_blank t ≡ 0
no_front [] e = refl
no_front (b ∷ t) e =
    let p = both_are (not (is_comma b)) _ (both_are (is_plain b) _ e).0 in
    ap (λ c. cond c (1 + prefix_len is_blank t) 0) (isn't (is_blank b) p.1)
  where
    isn't : (b : Bool) → not b ≡ true → b ≡ false
    isn't true p = absurd (false≢true p)
    isn't false p = refl

plain_each : (t : List ℕ) → IsPlain t → AllByRecursion (λ b. is_plain b ≡ true) t
plain_each [] e = tt
plain_each (b ∷ t) e = let p = both_are (is_plain b) _ e in (p.0, plain_each t p.1)

each_plain : (t : List ℕ) → AllByRecursion (λ b. is_plain b ≡ true) t → IsPlain t
each_plain [] h = refl
each_plain (b ∷ t) h = both _ _ h.0 (each_plain t h.1)

plain_reverse : (t : List ℕ) → IsPlain t → IsPlain (reverse t)
plain_reverse t e =
    each_plain (reverse t) (recursion_from_All (λ b. is_plain b ≡ true) (reverse t)
    (All-permutation (λ b. is_plain b ≡ true) t (reverse t) (IsPermutation-reverse t) (All-from_recursion (λ b. is_plain b ≡ true) t (plain_each t e))))

own_trimmed : (t : List ℕ) → IsPlain t → trimmed t ≡ t
unfolding trimmed
own_trimmed t e =
    let whole : length t ≤ length t - 0 = omega arith in
    ap (λ n. without_back (drop n t)) (no_front t e)
    ∙ ap (λ n. take (length t - n) t) (no_front (reverse t) (plain_reverse t e))
    ∙ take_all (length t - 0) t whole

-- ---- splitting at commas

isn't_comma : (b : ℕ) → is_plain b ≡ true → is_comma b ≡ false
isn't_comma b e = grind (arith, nat_tests)

split_plain : (t rest : List ℕ) → IsPlain t → slice_split is_comma (t ++ 44 ∷ rest) ≡ t ∷ slice_split is_comma rest
split_plain [] rest h = refl
split_plain (x ∷ xs) rest h =
    let p = both_are (is_plain x) _ h in
    ap (λ b. cond b ([] ∷ slice_split is_comma (xs ++ 44 ∷ rest)) (onto_first x (slice_split is_comma (xs ++ 44 ∷ rest)))) (isn't_comma x p.0)
    ∙ ap (onto_first x) (split_plain xs rest p.1)

split_last : (t : List ℕ) → IsPlain t → slice_split is_comma t ≡ t ∷ []
split_last [] h = refl
split_last (x ∷ xs) h =
    let p = both_are (is_plain x) _ h in
    ap (λ b. cond b ([] ∷ slice_split is_comma xs) (onto_first x (slice_split is_comma xs))) (isn't_comma x p.0) ∙ ap (onto_first x) (split_last xs p.1)

split_joined : (p : Property) (ps : List Property) → AllByRecursion IsProperty (p ∷ ps)
    → slice_split is_comma (join_with_byte 44 (map property_text (p ∷ ps))) ≡ map property_text (p ∷ ps)
split_joined p [] h = split_last (property_text p) (plain_text p h.0)
split_joined p (q ∷ ps) h =
    split_plain (property_text p) (join_with_byte 44 (map property_text (q ∷ ps))) (plain_text p h.0) ∙ ap (λ ts. property_text p ∷ ts) (split_joined q ps h.1)

-- ---- texts that aren't empty

abbrev HasBytes : List ℕ → Type 0
HasBytes t = (length t == 0) ≡ false

longer : (n : ℕ) → (suc n == 0) ≡ false
longer n = grind (arith, nat_tests)

bytes_before : (s : List ℕ) (b : ℕ) (t : List ℕ) → HasBytes (s ++ b ∷ t)
bytes_before [] b t = longer (length t)
bytes_before (a ∷ s) b t = longer (length (s ++ b ∷ t))

bytes_joined : (p : Property) (ps : List Property) → HasBytes (join_with_byte 44 (map property_text (p ∷ ps)))
bytes_joined p [] = bytes_before p.0 61 (encode_of standard p.1)
bytes_joined p (q ∷ ps) = bytes_before (property_text p) 44 (join_with_byte 44 (map property_text (q ∷ ps)))

items_joined : (ps : List Property) → AllByRecursion IsProperty ps → items_of (join_with_byte 44 (map property_text ps)) ≡ map property_text ps
items_joined [] h = refl
items_joined (p ∷ ps) h =
    let text = join_with_byte 44 (map property_text (p ∷ ps)) in
    ap (λ b. cond b [] (slice_split is_comma text)) (bytes_joined p ps) ∙ split_joined p ps h

-- ---- reading back

own_spelled : (ps : List Property) → AllByRecursion IsProperty ps → AllZip SpellsProperty (map property_text ps) ps
own_spelled [] h = tt
own_spelled (p ∷ ps) h = ((h.0, own_trimmed (property_text p) (plain_text p h.0)), own_spelled ps h.1)

same_count : (ps : List Property) → length (map property_text ps) ≡ length ps
same_count [] = refl
same_count (p ∷ ps) = ap suc (same_count ps)

pub written_is_text : (ps : List Property) → IsProperties ps → IsPropertiesText (properties_text ps) ps
unfolding properties_text
written_is_text ps h =
    let items = items_joined ps h.each in
    let long = ap length items ∙ same_count ps in
    record {
      spelled = record {
        listed = ps;
        spelled = subst (λ ts. AllZip SpellsProperty ts ps) (sym items) (own_spelled ps h.each);
        rearranged = IsPermutation-refl ps;
        in_order = h.in_order;
      };
      few = omega (arith, long, h.few);
    }

pub written_is_read : (ps : List Property) → IsProperties ps → properties_of (properties_text ps) ≡ Ok ps
written_is_read ps h = only_read (properties_text ps) ps (written_is_text ps h)

-- ---- the loop that writes

joined_more : (ps : List Property) (p : Property)
    → cond (length (join_with_byte 44 (map property_text ps)) == 0) (join_with_byte 44 (map property_text ps)) (join_with_byte 44 (map property_text ps) ++ 44 ∷ []) ++ property_text p
    ≡ join_with_byte 44 (map property_text (ps ++ p ∷ []))
joined_more [] p = refl
joined_more (q ∷ ps) p =
    let text = join_with_byte 44 (map property_text (q ∷ ps)) in
    ap (λ b. cond b text (text ++ 44 ∷ []) ++ property_text p) (bytes_joined q ps) ∙ append_assoc text (44 ∷ []) (property_text p) ∙ joined_end q ps
  where
    joined_end : (q : Property) (ps : List Property) → join_with_byte 44 (map property_text (q ∷ ps)) ++ 44 ∷ property_text p ≡ join_with_byte 44 (map property_text ((q ∷ ps) ++ p ∷ []))
    joined_end q [] = refl
    joined_end q (r ∷ ps) =
        append_assoc (property_text q) (44 ∷ join_with_byte 44 (map property_text (r ∷ ps))) (44 ∷ property_text p)
        ∙ ap (λ t. property_text q ++ 44 ∷ t) (joined_end r ps)

pub text_more : (pairs : List (Vec ℕ Global × Vec ℕ Global)) (i : ℕ) (pair : Vec ℕ Global × Vec ℕ Global) (text parted new name value : List ℕ)
    → i < length pairs → pair ≡ get_or pairs i pair → text ≡ join_with_byte 44 (map property_text (map property_of (take i pairs)))
    → parted ≡ cond (length text == 0) text (text ++ 44 ∷ []) → new ≡ parted ++ property_text (name, value) → name ≡ pair.0.items → value ≡ pair.1.items
    → new ≡ join_with_byte 44 (map property_text (map property_of (take (i + 1) pairs)))
text_more pairs i pair text parted new name value within is so_far cut end own_name own_value =
    let front = map property_of (take i pairs) in
    end ∙ (λ k. cut k ++ property_text (own_name k, own_value k))
    ∙ ap (λ t. cond (length t == 0) t (t ++ 44 ∷ []) ++ property_text (property_of pair)) so_far
    ∙ joined_more front (property_of pair)
    ∙ ap (λ ps. join_with_byte 44 (map property_text ps)) (sym (map-append property_of (take i pairs) (pair ∷ [])))
    ∙ ap (λ ps. join_with_byte 44 (map property_text (map property_of ps))) (sym (take_more pairs i pair within ∙ ap (λ q. take i pairs ++ q ∷ []) (sym is)))
