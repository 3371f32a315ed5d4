-- Hex digits, and their values.
use Rattle.std.proofs.Common.{◌++◌, map, Option, Some, None, sym, ap, ◌∙◌, ◌≡◌, ℕ, zero, suc, ◌<◌, ◌&&◌, Bool, true, false, List, [], ◌∷◌, length, get_or, refl, arith}
use Rattle.std.specs.Char.{is_ascii_hexdigit, digit_value}
use Rattle.std.specs.List.{list_all, filter_map, cons_option}
use Rattle.std.specs.Str.Parse.{AllDigits}
use Rattle.std.proofs.lemmas.Bool.{false≢true}
use Rattle.std.proofs.lemmas.List.{map-append, append-nil}
use Rattle.std.proofs.lemmas.List.Elements.{filter_map-append}
use denote.Ref.{Bor}
use Rattle.head_text.specs.ETags.{item_number}
use Rattle.std.proofs.lemmas.Bool.Decides.{nat_tests}

both_are : (a b : Bool) → (a && b) ≡ true → (a ≡ true) × (b ≡ true)
both_are true b p = (refl, p)
both_are false b p = absurd (false≢true p)

hex_below : (b : ℕ) → is_ascii_hexdigit b ≡ true → digit_value b < 16
hex_below b e = grind (arith, nat_tests)

pub all_hex : (text : List ℕ) → list_all is_ascii_hexdigit text ≡ true → AllDigits 16 text
all_hex [] e = tt
all_hex (b ∷ text) e =
    let parts = both_are (is_ascii_hexdigit b) (list_all is_ascii_hexdigit text) e in
    (hex_below b parts.0, all_hex text parts.1)

pub hex_at : (text : List ℕ) (i : ℕ) → list_all is_ascii_hexdigit text ≡ true → i < length text → is_ascii_hexdigit (get_or text i 0) ≡ true
hex_at [] i e below = absurd (omega arith)
hex_at (b ∷ text) zero e below = (both_are (is_ascii_hexdigit b) (list_all is_ascii_hexdigit text) e).0
hex_at (b ∷ text) (suc i) e below = hex_at text i (both_are (is_ascii_hexdigit b) (list_all is_ascii_hexdigit text) e).1 (omega arith)

-- one more item: its number is behind the others, where it has one
one_more : (items : List (Bor (List ℕ))) (item : Bor (List ℕ)) (o : Option ℕ) → item_number item.now ≡ o →
    filter_map item_number (map (λ i. i.now) (items ++ item ∷ [])) ≡ filter_map item_number (map (λ i. i.now) items) ++ cons_option o []
one_more items item o e =
    ap (filter_map item_number) (map-append (λ (i : Bor (List ℕ)). i.now) items (item ∷ []))
    ∙ filter_map-append item_number (map (λ (i : Bor (List ℕ)). i.now) items) (item.now ∷ [])
    ∙ ap (λ n. filter_map item_number (map (λ (i : Bor (List ℕ)). i.now) items) ++ cons_option n []) e

pub with_number : (items : List (Bor (List ℕ))) (item : Bor (List ℕ)) (n : ℕ) → item_number item.now ≡ Some n →
    filter_map item_number (map (λ i. i.now) items) ++ n ∷ [] ≡ filter_map item_number (map (λ i. i.now) (items ++ item ∷ []))
with_number items item n e = sym (one_more items item (Some n) e)

pub without_number : (items : List (Bor (List ℕ))) (item : Bor (List ℕ)) → item_number item.now ≡ None →
    filter_map item_number (map (λ i. i.now) items) ≡ filter_map item_number (map (λ i. i.now) (items ++ item ∷ []))
without_number items item e = sym (one_more items item None e ∙ append-nil (filter_map item_number (map (λ (i : Bor (List ℕ)). i.now) items)))
