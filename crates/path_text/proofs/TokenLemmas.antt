-- A token is read exactly where it is what is written.
use Rattle.std.proofs.Common.{◌≡◌, ℕ, zero, suc, ◌<◌, inl, inr, Bool, true, false, ◌&&◌, cond, eqb, List, [], ◌∷◌, ◌++◌, length, get_or, drop, slice_get, bytes_eq, Option, Some, None, option_and_then, Result, Ok, Err, IfOk, IfSome, refl, sym, ap, ◌∙◌, append-nil, arith}
use Rattle.std.specs.declared.alloc.AllocError.{AllocError}
use Rattle.std.specs.Result.{result_ok}
use Rattle.std.specs.List.{flat_map, join_with_byte, list_all}
use Rattle.std.proofs.lemmas.Bool.{false≢true}
use Rattle.std.proofs.lemmas.Bool.Decides.{nat_tests}
use Rattle.std.proofs.lemmas.List.Folds.{list_all-append}
use Rattle.std.proofs.lemmas.Slice.Eq.{bytes_eq-Decides}
use Rattle.base64.specs.declared.decode.DecodeError.{DecodeError}
use Rattle.base64.specs.Engines.{standard}
use Rattle.base64.specs.GeneralPurpose.{IsBytes, decode_of, decoded_of, encode_of}
use Rattle.base64.proofs.EngineFacts.{decode_of-encode_of, decode_of_strict}
use Rattle.path_text.specs.Texts.{KeepsLimits, Spells, path_text, plain_path}
use Rattle.path_text.specs.Tokens.{IsToken, full_text, path_if_said, is_on_page, path_said, token_bytes, token_path, token_text}
use Rattle.path_text.proofs.PlaceLemmas.{both_parts}
use Rattle.path_text.proofs.NameLemmas.{is_byte, path_bytes}
use Rattle.path_text.proofs.ReadLemmas.{spelled_is_read}

-- ---- bytes

pub all_bytes : (text : List ℕ) → ((i : ℕ) → i < length text → get_or text i 0 < 256) → list_all is_byte text ≡ true
all_bytes [] fits = refl
all_bytes (b ∷ text) fits =
    let small : b < 256 = fits 0 (omega arith) in
    let here : is_byte b ≡ true = grind (arith, nat_tests) in
    rw here (all_bytes text (λ i within. fits (suc i) (omega arith)))

are_bytes : (text : List ℕ) → list_all is_byte text ≡ true → IsBytes text
are_bytes [] all i = omega arith
are_bytes (b ∷ text) all zero = byte_below b (both_parts (is_byte b) (list_all is_byte text) all).0
  where
    byte_below : (b : ℕ) → is_byte b ≡ true → b < 256
    byte_below b e = grind (arith, nat_tests)
are_bytes (b ∷ text) all (suc i) = are_bytes text (both_parts (is_byte b) (list_all is_byte text) all).1 i

-- ---- what is joined

joined_names : (part : List ℕ) (names : List (List ℕ)) → join_with_byte 47 (part ∷ names) ≡ part ++ flat_map (λ name. 47 ∷ name) names
joined_names part [] = sym (append-nil part)
joined_names part (name ∷ names) = ap (λ x. part ++ (47 ∷ x)) (joined_names name names)

pub text_of_account : (path : List (List ℕ)) → None ≡ slice_get path 0 → 47 ∷ [] ≡ path_text path
text_of_account [] e = refl
text_of_account (part ∷ names) e = cc

pub text_of_parts : (path : List (List ℕ)) (part : List ℕ) → Some part ≡ slice_get path 0 → ((47 ∷ []) ++ part) ++ flat_map (λ name. 47 ∷ name) (drop 1 path) ≡ path_text path
text_of_parts [] part e = cc
text_of_parts (first ∷ names) part e =
    let same : part ≡ first = cc in
    ap (λ x. 47 ∷ (x ++ flat_map (λ name. 47 ∷ name) names)) same ∙ ap (λ x. 47 ∷ x) (sym (joined_names first names))

pub text_of_no_names : (names : List (List ℕ)) → eqb (length names) 0 ≡ true → 47 ∷ [] ≡ path_text names
text_of_no_names [] e = refl
text_of_no_names (name ∷ names) e =
    let some : eqb (length (name ∷ names)) 0 ≡ false = grind (arith, nat_tests) in
    absurd (false≢true (sym some ∙ e))

pub text_of_names : (names : List (List ℕ)) → eqb (length names) 0 ≡ false → flat_map (λ name. 47 ∷ name) names ≡ path_text names
text_of_names [] e = cc
text_of_names (name ∷ names) e = ap (λ x. 47 ∷ x) (sym (joined_names name names))

-- ---- tokens

full_is_spelled : (fs : Option (List ℕ)) (path : List (List ℕ)) → is_on_page fs path ≡ true → Spells (full_text fs (token_bytes fs path)) path
full_is_spelled None path e = inl refl
full_is_spelled (Some fs) [] e = absurd (false≢true e)
full_is_spelled (Some fs) (part ∷ []) e =
    inr (ap (λ x. (47 ∷ x) ++ 47 ∷ []) (sym ((bytes_eq-Decides part fs).0 e)))
full_is_spelled (Some fs) (part ∷ name ∷ names) e =
    inl (ap (λ x. (47 ∷ x) ++ (47 ∷ join_with_byte 47 (name ∷ names))) (sym ((bytes_eq-Decides part fs).0 e)))

said_bytes : (fs : Option (List ℕ)) (path : List (List ℕ)) → list_all is_byte (join_with_byte 47 path) ≡ true → list_all is_byte (token_bytes fs path) ≡ true
said_bytes None path all = all
said_bytes (Some fs) [] all = refl
said_bytes (Some fs) (part ∷ []) all = refl
said_bytes (Some fs) (part ∷ name ∷ names) all =
    (both_parts (list_all is_byte part) (list_all is_byte (47 ∷ join_with_byte 47 (name ∷ names))) (sym (list_all-append is_byte part (47 ∷ join_with_byte 47 (name ∷ names))) ∙ all)).1

pub token_is_read : (fs : Option (List ℕ)) (text : List ℕ) (path : List (List ℕ)) → IsToken fs text path → token_path fs text ≡ Some path
unfolding token_path token_text path_said path_if_said decoded_of
token_is_read fs text path is =
    let decoded : decode_of standard text ≡ Ok (token_bytes fs path) = ap (decode_of standard) is.spelled ∙ decode_of-encode_of standard (token_bytes fs path) refl (are_bytes (token_bytes fs path) (said_bytes fs path (path_bytes path is.limits.parts))) in
    let read = spelled_is_read (full_text fs (token_bytes fs path)) path is.limits (full_is_spelled fs path is.page) in
    let same = (bytes_eq-Decides (token_bytes fs path) (token_bytes fs path)).1 refl in
    rw (decoded, read, is.page, same) refl

then_some : {A B : Type 0} (f : A → Option B) (o : Option A) (y : B) → option_and_then f o ≡ Some y → (x : A) × (o ≡ Some x) × (f x ≡ Some y)
then_some f None y e = cc
then_some f (Some x) y e = (x, refl, e)

was_ok : {A : Type 0} (r : Result A DecodeError) (x : A) → result_ok r ≡ Some x → r ≡ Ok x
was_ok (Ok y) x e = ap (λ z. Ok z) (let same : y ≡ x = cc in same)
was_ok (Err d) x e = cc

kept : (t : Bool) (q p : List (List ℕ)) → cond t (Some q) None ≡ Some p → (t ≡ true) × (q ≡ p)
kept true q p e = (refl, cc)
kept false q p e = cc

pub read_is_token : (fs : Option (List ℕ)) (text : List ℕ) (path : List (List ℕ)) → list_all is_byte text ≡ true → KeepsLimits path → token_path fs text ≡ Some path → IsToken fs text path
unfolding token_path token_text path_said path_if_said decoded_of
read_is_token fs text path bytes limits e =
    let decoded = then_some (path_said fs) (decoded_of standard text) path e in
    let read = then_some (path_if_said fs decoded.0) (result_ok (plain_path (full_text fs decoded.0))) path decoded.2 in
    let same = kept (is_on_page fs read.0 && bytes_eq (token_bytes fs read.0) decoded.0) read.0 path read.2 in
    let tests = both_parts (is_on_page fs read.0) (bytes_eq (token_bytes fs read.0) decoded.0) same.0 in
    let said : token_bytes fs read.0 ≡ decoded.0 = (bytes_eq-Decides (token_bytes fs read.0) decoded.0).0 tests.1 in
    let ok : decode_of standard text ≡ Ok decoded.0 = was_ok (decode_of standard text) decoded.0 decoded.1 in
    let written = decode_of_strict standard text decoded.0 (refl, refl) (are_bytes text bytes) ok in
    record {
      limits = limits;
      page = ap (is_on_page fs) (sym same.1) ∙ tests.0;
      spelled = written ∙ ap (encode_of standard) (sym said) ∙ ap (λ p. encode_of standard (token_bytes fs p)) same.1;
    }

-- ---- what a call answers

pub found_at : (r : Result (Option (List (List ℕ))) AllocError) (o : Option (List (List ℕ))) (path : List (List ℕ)) → IfOk r (λ found. found ≡ o) → o ≡ Some path → IfOk r (λ found. found ≡ Some path)
found_at (Ok found) o path is e = is ∙ e
found_at (Err stop) o path is e = is

tokens_of : (fs : Option (List ℕ)) (text : List ℕ) (found : Option (List (List ℕ))) → list_all is_byte text ≡ true → found ≡ token_path fs text → IfSome found KeepsLimits → IfSome found (λ path. IsToken fs text path)
tokens_of fs text None bytes is limits = limits
tokens_of fs text (Some path) bytes is limits = read_is_token fs text path bytes limits (sym is)

pub tokens_found : (fs : Option (List ℕ)) (text : List ℕ) (r : Result (Option (List (List ℕ))) AllocError) → list_all is_byte text ≡ true → IfOk r (λ found. found ≡ token_path fs text) → IfOk r (λ found. IfSome found KeepsLimits) → IfOk r (λ found. IfSome found (λ path. IsToken fs text path))
tokens_found fs text (Ok found) bytes is limits = tokens_of fs text found bytes is limits
tokens_found fs text (Err stop) bytes is limits = is
