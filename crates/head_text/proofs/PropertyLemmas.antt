-- What the reader of properties says of one item.
use Rattle.std.proofs.Common.{◌≡◌, ℕ, zero, suc, ◌<◌, ◌≤◌, Bool, true, false, ◌&&◌, ◌||◌, ◌==◌, cond, bytes_eq, List, [], ◌∷◌, map, length, get_or, Some, None, Result, Ok, Err, IfOk, Bor, Vec, refl, sym, ap, ◌∙◌, arith}
use Rattle.std.specs.declared.alloc.AllocError.{AllocError}
use Rattle.std.specs.declared.alloc.Global.{Global}
use Rattle.std.specs.List.{list_all, list_any, slice_split, insert}
use Rattle.std.proofs.lemmas.Bool.{false≢true}
use Rattle.std.proofs.lemmas.Bool.Decides.{nat_tests}
use Rattle.base64.specs.declared.decode.DecodeError.{DecodeError}
use Rattle.base64.specs.Engines.{standard}
use Rattle.base64.specs.GeneralPurpose.{IsBytes, decode_of, decoded_of}
use Rattle.head_text.specs.ETags.{is_comma}
use Rattle.std.specs.declared.cmp.Ordering.TheVariants.{Less, Equal, Greater}
use Rattle.std.specs.FinMap.{put, slice_cmp-IsAntisymmetric, nat_cmp-IsAntisymmetric}
use Rattle.std.specs.FinMap.Entries.{by_order}
use Rattle.std.proofs.lemmas.List.{length-map}
use Rattle.std.proofs.lemmas.Slice.Eq.{bytes_eq-Decides}
use Rattle.head_text.specs.declared.props_fault.PropsFault.TheVariants.{Twice}
use Rattle.head_text.specs.Properties.{Property, name_cmp, is_byte, property_of}
use Rattle.head_text.specs.PropertyPlaces.{place_of}
use Rattle.head_text.specs.PropertyTexts.{items_of, value_of, is_named, with_property}

pub both_are : (a b : Bool) → (a && b) ≡ true → (a ≡ true) × (b ≡ true)
both_are true b p = (refl, p)
both_are false b p = absurd (false≢true p)

pub both : (a b : Bool) → a ≡ true → b ≡ true → (a && b) ≡ true
both true b p q = q
both false b p q = absurd (false≢true p)

-- ---- bytes

pub all_bytes : (text : List ℕ) → IsBytes text → list_all is_byte text ≡ true
all_bytes [] fits = refl
all_bytes (b ∷ text) fits =
    let small : b < 256 = fits 0 in
    let here : is_byte b ≡ true = grind (arith, nat_tests) in
    both (is_byte b) _ here (all_bytes text (λ i. fits (suc i)))

pub are_bytes : (text : List ℕ) → list_all is_byte text ≡ true → IsBytes text
are_bytes [] all i = omega arith
are_bytes (b ∷ text) all zero = byte_below b (both_are (is_byte b) (list_all is_byte text) all).0
  where
    byte_below : (b : ℕ) → is_byte b ≡ true → b < 256
    byte_below b e = grind (arith, nat_tests)
are_bytes (b ∷ text) all (suc i) = are_bytes text (both_are (is_byte b) (list_all is_byte text) all).1 i

-- ---- the value

pub said_value : (text value : List ℕ) → decode_of standard text ≡ Ok value → IsBytes value → Some value ≡ value_of text
unfolding value_of decoded_of
said_value text value ok bytes = rw (ok, all_bytes value bytes) refl

pub no_value : (text : List ℕ) (e : DecodeError) → decode_of standard text ≡ Err e → None ≡ value_of text
unfolding value_of decoded_of
no_value text e failed = rw failed refl

-- ---- the items

pub with_items : (text : List ℕ) (r : Result (Vec (Bor (List ℕ)) Global) AllocError) (empty : Bool) → empty ≡ (length text == 0) → empty ≡ false
    → IfOk r (λ items. map (λ item. item.now) items.items ≡ slice_split is_comma text) → IfOk r (λ items. map (λ item. item.now) items.items ≡ items_of text)
with_items text (Ok items) empty e is h = h ∙ ap (λ b. cond b [] (slice_split is_comma text)) (sym is ∙ e)
with_items text (Err stop) empty e is h = h

-- ---- names

pub named_in : (name : List ℕ) (pairs : List (Vec ℕ Global × Vec ℕ Global)) → list_any (λ pair. bytes_eq pair.0.items name) pairs ≡ is_named name (map property_of pairs)
named_in name [] = refl
named_in name (p ∷ pairs) = rw (named_in name pairs) refl

-- ---- a property among those that stood before

pub twice : (at : ℕ) (pairs items : List (Vec ℕ Global × Vec ℕ Global)) (pair : Vec ℕ Global × Vec ℕ Global) (name : List ℕ) (r : Bool)
    → items ≡ pairs → name ≡ pair.0.items → r ≡ list_any (λ q. bytes_eq q.0.items name) items → r ≡ true
    → with_property at (map property_of pairs) (property_of pair) ≡ Err (Twice at)
unfolding with_property
twice at pairs items pair name r same own e is =
    let named : is_named pair.0.items (map property_of pairs) ≡ true =
    sym (named_in pair.0.items pairs) ∙ (λ i. list_any (λ q. bytes_eq q.0.items (sym own i)) (sym same i)) ∙ sym e ∙ is in
    rw named refl

map_insert : {A B : Type 0} (f : A → B) (xs : List A) (i : ℕ) (x : A) → map f (insert xs i x) ≡ insert (map f xs) i (f x)
map_insert f xs zero x = refl
map_insert f [] (suc i) x = refl
map_insert f (y ∷ xs) (suc i) x = ap (λ ys. f y ∷ ys) (map_insert f xs i x)

-- a name that ties with another is it
pub same_name : (a b : List ℕ) → name_cmp a b ≡ Equal → a ≡ b
same_name = slice_cmp-IsAntisymmetric nat_cmp-IsAntisymmetric

apart : (a b : List ℕ) → bytes_eq b a ≡ false → name_cmp a b ≡ Equal → ⊥
apart a b not_same tie = false≢true (sym not_same ∙ (bytes_eq-Decides b a).1 (sym (same_name a b tie)))

either_is : (a b : Bool) → (a || b) ≡ false → (a ≡ false) × (b ≡ false)
either_is true b e = absurd (false≢true (sym e))
either_is false b e = (refl, e)

-- a property whose name is new stands at its place
pub put_is : (k v : List ℕ) (es : List Property) → is_named k es ≡ false → (place_of k es ≤ length es) × (put name_cmp k v es ≡ insert es (place_of k es) (k, v))
put_is k v [] new = (omega arith, refl)
put_is k v (e ∷ es) new =
    let parts = either_is (bytes_eq e.0 k) (is_named k es) new in
    elim (name_cmp k e.0) as (λ o. name_cmp k e.0 ≡ o → (by_order o 0 0 (suc (place_of k es)) ≤ suc (length es))
    × (by_order o ((k, v) ∷ e ∷ es) ((e.0, v) ∷ es) (e ∷ put name_cmp k v es) ≡ insert (e ∷ es) (by_order o 0 0 (suc (place_of k es))) (k, v))) [
      | Less ↦ λ _. (omega arith, refl)
      | Equal ↦ λ tie. absurd (apart k e.0 parts.0 tie)
      | Greater ↦ λ _. let p = put_is k v es parts.1 in (omega (arith, p.0), ap (λ xs. e ∷ xs) p.1)
    ] refl

module _ (at : ℕ) (pairs items : List (Vec ℕ Global × Vec ℕ Global)) (pair : Vec ℕ Global × Vec ℕ Global) (name : List ℕ) (r : Bool)
    (same : items ≡ pairs) (own : name ≡ pair.0.items) (e : r ≡ list_any (λ q. bytes_eq q.0.items name) items) (is : r ≡ false) where
  new_name : is_named pair.0.items (map property_of pairs) ≡ false
  new_name = sym (named_in pair.0.items pairs) ∙ (λ i. list_any (λ q. bytes_eq q.0.items (sym own i)) (sym same i)) ∙ sym e ∙ is

  pub place_within : (place : ℕ) (there : List (Vec ℕ Global × Vec ℕ Global)) (k : List ℕ) → there ≡ pairs → k ≡ pair.0.items → place ≡ place_of k (map property_of there) → place ≤ length pairs
  place_within place there k t o p =
      let within = (put_is pair.0.items pair.1.items (map property_of pairs) new_name).0 in
      let long = length-map pairs property_of in
      let where' : place ≡ place_of pair.0.items (map property_of pairs) = p ∙ (λ i. place_of (o i) (map property_of (t i))) in
      omega (arith, within, long, where')

  pub put_there : (place : ℕ) (there more : List (Vec ℕ Global × Vec ℕ Global)) (k : List ℕ) → there ≡ pairs → k ≡ pair.0.items → place ≡ place_of k (map property_of there)
      → more ≡ insert pairs place pair → with_property at (map property_of pairs) (property_of pair) ≡ Ok (map property_of more)
  unfolding with_property
  put_there place there more k t o p is_more =
      let where' : place ≡ place_of pair.0.items (map property_of pairs) = p ∙ (λ i. place_of (o i) (map property_of (t i))) in
      let put' = (put_is pair.0.items pair.1.items (map property_of pairs) new_name).1 in
      ap (λ b. cond b (Err (Twice at)) (Ok (put name_cmp pair.0.items pair.1.items (map property_of pairs)))) new_name
      ∙ ap Ok (put' ∙ ap (λ n. insert (map property_of pairs) n (property_of pair)) (sym where') ∙ sym (map_insert property_of pairs place pair) ∙ ap (map property_of) (sym is_more))

-- ---- bytes of a slice

pub text_bytes : (text : List ℕ) → ((i : ℕ) → i < length text → get_or text i 0 < 256) → list_all is_byte text ≡ true
text_bytes [] fits = refl
text_bytes (b ∷ text) fits =
    let small : b < 256 = fits 0 (omega arith) in
    let here : is_byte b ≡ true = grind (arith, nat_tests) in
    both (is_byte b) _ here (text_bytes text (λ i within. fits (suc i) (omega arith)))
