-- What holds of names holds of the texts that are made of them, and what holds of a text holds of its parts.
use Rattle.std.proofs.Common.{◌≡◌, ℕ, zero, suc, ◌+◌, ◌/◌, ◌%◌, ◌<◌, ◌≤◌, ◌⊎◌, inl, inr, Bool, true, false, not, ◌&&◌, ◌||◌, cond, ltb, nat_le, nat_lt, bytes_eq, List, [], ◌∷◌, ◌++◌, length, get_or, take, IsUtf8, lit<, refl, sym, ap, ◌∙◌, subst, ⊎_elim, length-append, arith}
use Rattle.std.specs.List.{list_all, join_with_byte}
use Rattle.std.specs.Str.{IsAscii, IsCharBoundary, is_utf8}
use Rattle.std.proofs.lemmas.Bool.{cases_Bool}
use Rattle.std.proofs.lemmas.Bool.Decides.{nat_tests}
use Rattle.std.proofs.lemmas.List.Folds.{list_all-append}
use Rattle.std.proofs.lemmas.Slice.Eq.{bytes_eq-Decides}
use Rattle.std.proofs.lemmas.Str.{IsUtf8-nil, IsUtf8-append, IsUtf8-drop, IsUtf8-encode, IsUtf8-from_ascii, IsUtf8-from_is_utf8, IsUtf8-past_char, IsUtf8-take, IsCharBoundary-before_ascii, encode_ascii, is_utf8-from_IsUtf8}
use Rattle.std.proofs.Math.Seq.{drop-append_seam, take-append_seam}
use Rattle.std.proofs.Math.Utf8.{encode, encodes, scalar, scalar_cases, scalars}
use Rattle.path_text.specs.Names.{are_parts, has_single_hyphens, is_clear, is_control, is_dots, is_fs_byte, is_fs_name, is_name, is_slash}
use Rattle.path_text.specs.Texts.{path_text}
use Rattle.path_text.proofs.PlaceLemmas.{both_parts}

-- ---- a name

not_true : (b : Bool) → not b ≡ true → b ≡ false
not_true true e = cc
not_true false e = refl

-- what a name is, fact by fact
pub record IsNamed (name : List ℕ) : Type 0 where
  pub some : nat_le 1 (length name) ≡ true
  pub short : nat_le (length name) 255 ≡ true
  pub no_dots : is_dots name ≡ false
  pub no_slash : list_all (λ b. not (is_slash b)) name ≡ true
  pub no_control : list_all (λ b. not (is_control b)) name ≡ true
  pub utf8 : is_utf8 name ≡ true

pub named : (name : List ℕ) → is_name name ≡ true → IsNamed name
named name e =
    let whole = both_parts (nat_le 1 (length name) && nat_le (length name) 255 && not (is_dots name) && is_clear name) (is_utf8 name) e in
    let front = both_parts (nat_le 1 (length name) && nat_le (length name) 255 && not (is_dots name)) (is_clear name) whole.0 in
    let sizes = both_parts (nat_le 1 (length name) && nat_le (length name) 255) (not (is_dots name)) front.0 in
    let long = both_parts (nat_le 1 (length name)) (nat_le (length name) 255) sizes.0 in
    let clear = both_parts (list_all (λ b. not (is_slash b)) name) (list_all (λ b. not (is_control b)) name) front.1 in
    record { some = long.0; short = long.1; no_dots = not_true (is_dots name) sizes.1; no_slash = clear.0; no_control = clear.1; utf8 = whole.1 }

pub name_from : (name : List ℕ) → IsNamed name → is_name name ≡ true
name_from name is = rw (is.some, is.short, is.no_dots, is.no_slash, is.no_control, is.utf8) refl

either : (a b : Bool) → (a || b) ≡ true → (a ≡ true) ⊎ (b ≡ true)
either true b e = inl refl
either false b e = inr e

pub dots_are_short : (part : List ℕ) → is_dots part ≡ true → (0 < length part) × (length part ≤ 2)
dots_are_short part e =
    ⊎_elim
    (λ one. let same : length part ≡ 1 = ap length ((bytes_eq-Decides part (46 ∷ [])).0 one) in (omega arith, omega arith))
    (λ two. let same : length part ≡ 2 = ap length ((bytes_eq-Decides part (46 ∷ 46 ∷ [])).0 two) in (omega arith, omega arith))
    (either (bytes_eq part (46 ∷ [])) (bytes_eq part (46 ∷ 46 ∷ [])) e)

-- ---- the name of a filesystem

no_fs_slash : (text : List ℕ) → list_all is_fs_byte text ≡ true → list_all (λ b. not (is_slash b)) text ≡ true
no_fs_slash [] all = refl
no_fs_slash (b ∷ text) all =
    let parts = both_parts (is_fs_byte b) (list_all is_fs_byte text) all in
    let here : not (is_slash b) ≡ true = grind (arith, nat_tests) in
    rw here (no_fs_slash text parts.1)

no_fs_control : (text : List ℕ) → list_all is_fs_byte text ≡ true → list_all (λ b. not (is_control b)) text ≡ true
no_fs_control [] all = refl
no_fs_control (b ∷ text) all =
    let parts = both_parts (is_fs_byte b) (list_all is_fs_byte text) all in
    let here : not (is_control b) ≡ true = grind (arith, nat_tests) in
    rw here (no_fs_control text parts.1)

fs_ascii : (text : List ℕ) → list_all is_fs_byte text ≡ true → IsAscii text
fs_ascii [] all i = omega arith
fs_ascii (b ∷ text) all zero = byte_below b (both_parts (is_fs_byte b) (list_all is_fs_byte text) all).0
  where
    byte_below : (b : ℕ) → is_fs_byte b ≡ true → b < 128
    byte_below b e = grind (arith, nat_tests)
fs_ascii (b ∷ text) all (suc i) = fs_ascii text (both_parts (is_fs_byte b) (list_all is_fs_byte text) all).1 i

pub fs_is_named : (fs : List ℕ) → is_fs_name fs ≡ true → IsNamed fs
fs_is_named fs e =
    let front = both_parts (nat_le 3 (length fs) && nat_le (length fs) 63 && list_all is_fs_byte fs) (has_single_hyphens fs) e in
    let bytes = both_parts (nat_le 3 (length fs) && nat_le (length fs) 63) (list_all is_fs_byte fs) front.0 in
    let long = both_parts (nat_le 3 (length fs)) (nat_le (length fs) 63) bytes.0 in
    record {
      some = at_least (length fs) long.0;
      short = at_most (length fs) long.1;
      no_dots = ⊎_elim (λ yes. absurd (too_short (length fs) long.0 (dots_are_short fs yes).1)) (λ none. none) (cases_Bool (is_dots fs));
      no_slash = no_fs_slash fs bytes.1;
      no_control = no_fs_control fs bytes.1;
      utf8 = is_utf8-from_IsUtf8 fs (IsUtf8-from_ascii fs (fs_ascii fs bytes.1));
    }
  where
    at_least : (n : ℕ) → nat_le 3 n ≡ true → nat_le 1 n ≡ true
    at_least n e = grind (arith, nat_tests)

    at_most : (n : ℕ) → nat_le n 63 ≡ true → nat_le n 255 ≡ true
    at_most n e = grind (arith, nat_tests)

    too_short : (n : ℕ) → nat_le 3 n ≡ true → n ≤ 2 → ⊥
    too_short n e less = grind (arith, nat_tests)

pub fs_is_name : (fs : List ℕ) → is_fs_name fs ≡ true → is_name fs ≡ true
fs_is_name fs e = name_from fs (fs_is_named fs e)

pub parts_are_names : (path : List (List ℕ)) → are_parts path ≡ true → list_all is_name path ≡ true
parts_are_names [] e = refl
parts_are_names (fs ∷ names) e =
    let parts = both_parts (is_fs_name fs) (list_all is_name names) e in
    ap (λ b. b && list_all is_name names) (fs_is_name fs parts.0) ∙ parts.1

-- ---- the text of names

pub slash_is_utf8 : IsUtf8 (47 ∷ [])
slash_is_utf8 = subst (λ (t : List ℕ). IsUtf8 t) (encode_ascii 47 (lit< tt)) (IsUtf8-encode 47 refl)

join_utf8 : (names : List (List ℕ)) → list_all is_name names ≡ true → IsUtf8 (join_with_byte 47 names)
join_utf8 [] e = IsUtf8-nil
join_utf8 (name ∷ []) e = IsUtf8-from_is_utf8 name (named name (both_parts (is_name name) true e).0).utf8
join_utf8 (name ∷ next ∷ names) e =
    let parts = both_parts (is_name name) (list_all is_name (next ∷ names)) e in
    IsUtf8-append name (47 ∷ join_with_byte 47 (next ∷ names)) (IsUtf8-from_is_utf8 name (named name parts.0).utf8)
    (IsUtf8-append (47 ∷ []) (join_with_byte 47 (next ∷ names)) slash_is_utf8 (join_utf8 (next ∷ names) parts.1))

join_control : (names : List (List ℕ)) → list_all is_name names ≡ true → list_all (λ b. not (is_control b)) (join_with_byte 47 names) ≡ true
join_control [] e = refl
join_control (name ∷ []) e = (named name (both_parts (is_name name) true e).0).no_control
join_control (name ∷ next ∷ names) e =
    let parts = both_parts (is_name name) (list_all is_name (next ∷ names)) e in
    list_all-append (λ b. not (is_control b)) name (47 ∷ join_with_byte 47 (next ∷ names))
    ∙ ap (λ b. b && list_all (λ b. not (is_control b)) (47 ∷ join_with_byte 47 (next ∷ names))) (named name parts.0).no_control
    ∙ join_control (next ∷ names) parts.1

pub path_utf8 : (path : List (List ℕ)) → are_parts path ≡ true → IsUtf8 (path_text path)
path_utf8 path e = IsUtf8-append (47 ∷ []) (join_with_byte 47 path) slash_is_utf8 (join_utf8 path (parts_are_names path e))

pub path_control : (path : List (List ℕ)) → are_parts path ≡ true → list_all (λ b. not (is_control b)) (path_text path) ≡ true
path_control path e = join_control path (parts_are_names path e)

-- ---- UTF-8 has bytes

abbrev pub is_byte : ℕ → Bool
is_byte b = nat_lt b 256

byte : (b : ℕ) → b < 256 → is_byte b ≡ true
byte b small = grind (arith, nat_tests)

encoded_byte : (c : ℕ) → scalar c ≡ true → list_all is_byte (encode c) ≡ true
unfolding encode
encoded_byte c e = by_length (ltb c 128) (ltb c 2048) (ltb c 65536) refl refl refl
  where
    below : (c n : ℕ) → ltb c n ≡ true → c < n
    below c n e = grind (arith, nat_tests)

    all_one : (c : ℕ) → c < 128 → list_all is_byte (c ∷ []) ≡ true
    all_one c small = rw (byte c (omega arith)) refl

    all_two : (c : ℕ) → c < 2048 → list_all is_byte ((192 + c / 64) ∷ (128 + c % 64) ∷ []) ≡ true
    all_two c small = rw (byte (192 + c / 64) (omega arith), byte (128 + c % 64) (omega arith)) refl

    all_three : (c : ℕ) → c < 65536 → list_all is_byte ((224 + c / 4096) ∷ (128 + c / 64 % 64) ∷ (128 + c % 64) ∷ []) ≡ true
    all_three c small = rw (byte (224 + c / 4096) (omega arith), byte (128 + c / 64 % 64) (omega arith), byte (128 + c % 64) (omega arith)) refl

    all_four : (c : ℕ) → c < 1114112 → list_all is_byte ((240 + c / 262144) ∷ (128 + c / 4096 % 64) ∷ (128 + c / 64 % 64) ∷ (128 + c % 64) ∷ []) ≡ true
    all_four c small = rw (byte (240 + c / 262144) (omega arith), byte (128 + c / 4096 % 64) (omega arith), byte (128 + c / 64 % 64) (omega arith), byte (128 + c % 64) (omega arith)) refl

    fits : c < 1114112
    fits = ⊎_elim (λ low. omega arith) (λ high. let top = high.1 in omega arith) (scalar_cases c e)

    by_length : (one two three : Bool) → ltb c 128 ≡ one → ltb c 2048 ≡ two → ltb c 65536 ≡ three
        → list_all is_byte (cond one (c ∷ []) (cond two ((192 + c / 64) ∷ (128 + c % 64) ∷ []) (cond three ((224 + c / 4096) ∷ (128 + c / 64 % 64) ∷ (128 + c % 64) ∷ [])
        ((240 + c / 262144) ∷ (128 + c / 4096 % 64) ∷ (128 + c / 64 % 64) ∷ (128 + c % 64) ∷ [])))) ≡ true
    by_length true two three a b d = all_one c (below c 128 a)
    by_length false true three a b d = all_two c (below c 2048 b)
    by_length false false true a b d = all_three c (below c 65536 d)
    by_length false false false a b d = all_four c fits

encoded_bytes : (cs : List ℕ) → scalars cs ≡ true → list_all is_byte (encodes cs) ≡ true
encoded_bytes [] e = refl
encoded_bytes (c ∷ cs) e =
    let parts = both_parts (scalar c) (scalars cs) e in
    list_all-append is_byte (encode c) (encodes cs) ∙ ap (λ b. b && list_all is_byte (encodes cs)) (encoded_byte c parts.0) ∙ encoded_bytes cs parts.1

utf8_bytes : (text : List ℕ) → IsUtf8 text → list_all is_byte text ≡ true
utf8_bytes text u = subst (λ (t : List ℕ). list_all is_byte t ≡ true) u.1.1 (encoded_bytes u.0 u.1.0)

pub path_bytes : (path : List (List ℕ)) → are_parts path ≡ true → list_all is_byte (join_with_byte 47 path) ≡ true
path_bytes path e = utf8_bytes (join_with_byte 47 path) (join_utf8 path (parts_are_names path e))

-- ---- a text that is cut at a slash

at_seam : (xs : List ℕ) (y : ℕ) (ys : List ℕ) → get_or (xs ++ y ∷ ys) (length xs) 0 ≡ y
at_seam [] y ys = refl
at_seam (x ∷ xs) y ys = at_seam xs y ys

slash_boundary : (xs ys : List ℕ) → IsCharBoundary (xs ++ 47 ∷ ys) (length xs)
slash_boundary xs ys =
    let long = length-append xs (47 ∷ ys) in
    let more : length (47 ∷ ys) ≡ suc (length ys) = refl in
    IsCharBoundary-before_ascii (xs ++ 47 ∷ ys) (length xs) (omega arith) (small (get_or (xs ++ 47 ∷ ys) (length xs) 0) (at_seam xs 47 ys))
  where
    small : (b : ℕ) → b ≡ 47 → b < 128
    small b e = omega arith

pub before_slash : (xs ys : List ℕ) → IsUtf8 (xs ++ 47 ∷ ys) → IsUtf8 xs
before_slash xs ys u =
    subst (λ (t : List ℕ). IsUtf8 t) (take-append_seam xs (47 ∷ ys)) (IsUtf8-take (xs ++ 47 ∷ ys) (length xs) u (slash_boundary xs ys))

pub behind_slash : (xs ys : List ℕ) → IsUtf8 (xs ++ 47 ∷ ys) → IsUtf8 ys
behind_slash xs ys u =
    IsUtf8-past_char (47 ∷ ys) ys 47
    (subst (λ (t : List ℕ). IsUtf8 t) (drop-append_seam xs (47 ∷ ys)) (IsUtf8-drop (xs ++ 47 ∷ ys) (length xs) u (slash_boundary xs ys)))
    (sym (ap (λ (x : List ℕ). x ++ ys) (encode_ascii 47 (lit< tt))))

-- parts without `/` and control bytes, each of them UTF-8
pub record AreTexts (parts : List (List ℕ)) : Type 0 where
  pub no_slash : list_all (list_all (λ b. not (is_slash b))) parts ≡ true
  pub no_control : list_all (list_all (λ b. not (is_control b))) parts ≡ true
  pub utf8 : list_all is_utf8 parts ≡ true

front_all : (p : List ℕ → Bool) (front back : List (List ℕ)) → list_all p (front ++ back) ≡ true → list_all p front ≡ true
front_all p front back e = (both_parts (list_all p front) (list_all p back) (sym (list_all-append p front back) ∙ e)).0

pub texts_front : (front back : List (List ℕ)) → AreTexts (front ++ back) → AreTexts front
texts_front front back are = record {
  no_slash = front_all (list_all (λ b. not (is_slash b))) front back are.no_slash;
  no_control = front_all (list_all (λ b. not (is_control b))) front back are.no_control;
  utf8 = front_all is_utf8 front back are.utf8;
}

joined_utf8 : (part : List ℕ) (parts : List (List ℕ)) → IsUtf8 (join_with_byte 47 (part ∷ parts)) → list_all is_utf8 (part ∷ parts) ≡ true
joined_utf8 part [] u = ap (λ b. b && true) (is_utf8-from_IsUtf8 part u)
joined_utf8 part (next ∷ parts) u =
    ap (λ b. b && list_all is_utf8 (next ∷ parts)) (is_utf8-from_IsUtf8 part (before_slash part (join_with_byte 47 (next ∷ parts)) u))
    ∙ joined_utf8 next parts (behind_slash part (join_with_byte 47 (next ∷ parts)) u)

joined_all : (p : ℕ → Bool) (part : List ℕ) (parts : List (List ℕ)) → list_all p (join_with_byte 47 (part ∷ parts)) ≡ true → list_all (list_all p) (part ∷ parts) ≡ true
joined_all p part [] e = ap (λ b. b && true) e
joined_all p part (next ∷ parts) e =
    let cut = both_parts (list_all p part) (list_all p (47 ∷ join_with_byte 47 (next ∷ parts))) (sym (list_all-append p part (47 ∷ join_with_byte 47 (next ∷ parts))) ∙ e) in
    let back = both_parts (p 47) (list_all p (join_with_byte 47 (next ∷ parts))) cut.1 in
    ap (λ b. b && list_all (list_all p) (next ∷ parts)) cut.0 ∙ joined_all p next parts back.1

pub joined_texts : (parts : List (List ℕ)) → list_all (list_all (λ b. not (is_slash b))) parts ≡ true → IsUtf8 (join_with_byte 47 parts)
    → list_all (λ b. not (is_control b)) (join_with_byte 47 parts) ≡ true → AreTexts parts
joined_texts [] plain u clear = record { no_slash = refl; no_control = refl; utf8 = refl }
joined_texts (part ∷ parts) plain u clear =
    record { no_slash = plain; no_control = joined_all (λ b. not (is_control b)) part parts clear; utf8 = joined_utf8 part parts u }

-- ---- lists of names

pub name_at : (names : List (List ℕ)) (i : ℕ) (d : List ℕ) → list_all is_name names ≡ true → i < length names → is_name (get_or names i d) ≡ true
name_at [] i d e within = absurd (omega arith)
name_at (name ∷ names) zero d e within = (both_parts (is_name name) (list_all is_name names) e).0
name_at (name ∷ names) (suc i) d e within = name_at names i d (both_parts (is_name name) (list_all is_name names) e).1 (omega arith)

names_taken : (n : ℕ) (names : List (List ℕ)) → list_all is_name names ≡ true → list_all is_name (take n names) ≡ true
names_taken zero names e = refl
names_taken (suc n) [] e = refl
names_taken (suc n) (name ∷ names) e =
    let parts = both_parts (is_name name) (list_all is_name names) e in
    ap (λ b. b && list_all is_name (take n names)) parts.0 ∙ names_taken n names parts.1

pub front_parts : (n : ℕ) (fs : List ℕ) (names : List (List ℕ)) → are_parts (fs ∷ names) ≡ true → are_parts (fs ∷ take n names) ≡ true
front_parts n fs names e =
    let parts = both_parts (is_fs_name fs) (list_all is_name names) e in
    ap (λ b. b && list_all is_name (take n names)) parts.0 ∙ names_taken n names parts.1
