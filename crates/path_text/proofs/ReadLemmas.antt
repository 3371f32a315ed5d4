-- The text of a path is read as that path.
use Rattle.std.proofs.Common.{◌≡◌, ℕ, zero, suc, ◌+◌, ◌-◌, ◌<◌, Bool, true, false, not, ◌&&◌, cond, eqb, ltb, nat_le, List, [], ◌∷◌, ◌++◌, length, get_or, take, All, None, Ok, IsUtf8, lit<, refl, ap, ◌∙◌, subst, ⊎_elim, length-append, arith}
use Rattle.std.specs.List.{list_all, join_with_byte, slice_split, position, prefix_len}
use Rattle.std.specs.Str.Lossy.{utf8_valid_len}
use Rattle.std.proofs.lemmas.Bool.{false≢true, eq-eqb}
use Rattle.std.proofs.lemmas.Bool.Decides.{nat_tests}
use Rattle.std.proofs.lemmas.List.{get_or-append-add}
use Rattle.std.proofs.lemmas.List.Elements.{All-nil, All-cons}
use Rattle.std.proofs.lemmas.List.Splits.{slice_split_none, slice_split_at}
use Rattle.std.proofs.lemmas.Str.{utf8_valid_len-IsUtf8, IsUtf8-append, IsUtf8-encode, encode_ascii}
use Rattle.std.proofs.lemmas.List.Folds.{list_all-append}
use Rattle.std.proofs.Math.Seq.{take-append_seam}
use Rattle.path_text.specs.Names.{are_parts, is_control, is_fs_name, is_name, is_slash}
use Rattle.path_text.specs.Texts.{path_text, KeepsLimits, Spells, inner, split_parts, part_fault, parts_fault, size_fault, text_fault, plain_path}
use Rattle.path_text.proofs.PlaceLemmas.{both_parts}
use Rattle.path_text.proofs.NameLemmas.{fs_is_named, named, path_control, path_utf8}

pub not_true : (b : Bool) → not b ≡ true → b ≡ false
not_true true e = absurd (false≢true e)
not_true false e = refl

at_least : (k n : ℕ) → 0 < k → nat_le k n ≡ true → 0 < n
at_least k n some e = grind (arith, nat_tests)

-- a part of a path: not empty, and without `/`
record IsPiece (part : List ℕ) : Type 0 where
  nonempty : 0 < length part
  no_slash : list_all (λ b. not (is_slash b)) part ≡ true

data Pieces : List (List ℕ) → Type 0 where
  no_pieces : Pieces []
  a_piece : (part : List ℕ) (parts : List (List ℕ)) → IsPiece part → Pieces parts → Pieces (part ∷ parts)

fs_is_piece : (fs : List ℕ) → is_fs_name fs ≡ true → IsPiece fs
fs_is_piece fs e =
    let is = fs_is_named fs e in
    record { nonempty = at_least 1 (length fs) (omega arith) is.some; no_slash = is.no_slash }

name_is_piece : (name : List ℕ) → is_name name ≡ true → IsPiece name
name_is_piece name e =
    let is = named name e in
    record { nonempty = at_least 1 (length name) (omega arith) is.some; no_slash = is.no_slash }

names_are_pieces : (names : List (List ℕ)) → list_all is_name names ≡ true → Pieces names
names_are_pieces [] e = no_pieces
names_are_pieces (name ∷ names) e =
    let parts = both_parts (is_name name) (list_all is_name names) e in
    a_piece name names (name_is_piece name parts.0) (names_are_pieces names parts.1)

parts_are_pieces : (path : List (List ℕ)) → are_parts path ≡ true → Pieces path
parts_are_pieces [] e = no_pieces
parts_are_pieces (fs ∷ names) e =
    let parts = both_parts (is_fs_name fs) (list_all is_name names) e in
    a_piece fs names (fs_is_piece fs parts.0) (names_are_pieces names parts.1)

all_true : (p q : ℕ → Bool) (xs : List ℕ) → list_all p xs ≡ true → prefix_len p xs ≡ length xs
all_true p q [] all = refl
all_true p q (x ∷ xs) all =
    let parts = both_parts (p x) (list_all p xs) all in
    rw parts.0 (ap (λ n. 1 + n) (all_true p q xs parts.1) ∙ (omega arith))

pub nowhere : (p : ℕ → Bool) (xs : List ℕ) → list_all (λ b. not (p b)) xs ≡ true → position p xs ≡ None
nowhere p xs all = rw (all_true (λ b. not (p b)) p xs all) (let e : ltb (length xs) (length xs) ≡ false = grind (arith, nat_tests) in rw e refl)

pub no_slashes : (part : List ℕ) → list_all (λ b. not (is_slash b)) part ≡ true → All (λ b. is_slash b ≡ false) part
no_slashes [] e = All-nil (λ b. is_slash b ≡ false)
no_slashes (b ∷ part) e =
    let parts = both_parts (not (is_slash b)) (list_all (λ x. not (is_slash x)) part) e in
    All-cons (λ x. is_slash x ≡ false) b part (not_true (is_slash b) parts.0) (no_slashes part parts.1)

pub not_zero : (n : ℕ) → 0 < n → eqb n 0 ≡ false
not_zero n some = grind (arith, nat_tests)

not_above : (n k : ℕ) → nat_le n k ≡ true → ltb k n ≡ false
not_above n k e = grind (arith, nat_tests)

parts_of_path : (fs : List ℕ) (names : List (List ℕ)) → are_parts (fs ∷ names) ≡ true → IsPiece fs × Pieces names
parts_of_path fs names e =
    let parts = both_parts (is_fs_name fs) (list_all is_name names) e in
    (fs_is_piece fs parts.0, names_are_pieces names parts.1)

-- what is joined is split again
split_join : (part : List ℕ) (parts : List (List ℕ)) → IsPiece part → Pieces parts → slice_split is_slash (join_with_byte 47 (part ∷ parts)) ≡ part ∷ parts
split_join part [] piece _ = slice_split_none is_slash part (no_slashes part piece.no_slash)
split_join part (next ∷ parts) piece (a_piece _ _ one more) =
    slice_split_at is_slash part 47 (join_with_byte 47 (next ∷ parts)) (no_slashes part piece.no_slash) refl
    ∙ ap (λ x. part ∷ x) (split_join next parts one more)

-- the last byte is no slash
record EndsWell (text : List ℕ) : Type 0 where
  some : 0 < length text
  last : is_slash (get_or text (length text - 1) 0) ≡ false

byte_at : (text : List ℕ) (k : ℕ) → list_all (λ b. not (is_slash b)) text ≡ true → k < length text → is_slash (get_or text k 0) ≡ false
byte_at [] k e within = absurd (omega arith)
byte_at (b ∷ text) zero e within = not_true (is_slash b) (both_parts (not (is_slash b)) (list_all (λ x. not (is_slash x)) text) e).0
byte_at (b ∷ text) (suc k) e within = byte_at text k (both_parts (not (is_slash b)) (list_all (λ x. not (is_slash x)) text) e).1 (omega arith)

piece_ends_well : (part : List ℕ) → IsPiece part → EndsWell part
piece_ends_well part piece =
    let some = piece.nonempty in
    record { some = some; last = byte_at part (length part - 1) piece.no_slash (omega arith) }

append_ends_well : (front text : List ℕ) → EndsWell text → EndsWell (front ++ text)
append_ends_well front text ends =
    let some = ends.some in
    let long = length-append front text in
    let place : length (front ++ text) - 1 ≡ length front + (length text - 1) = omega arith in
    let byte : get_or (front ++ text) (length (front ++ text) - 1) 0 ≡ get_or text (length text - 1) 0 = ap (λ n. get_or (front ++ text) n 0) place ∙ get_or-append-add front text (length text - 1) 0 in
    record { some = omega arith; last = ap is_slash byte ∙ ends.last }

join_ends_well : (part : List ℕ) (parts : List (List ℕ)) → IsPiece part → Pieces parts → EndsWell (join_with_byte 47 (part ∷ parts))
join_ends_well part [] piece _ = piece_ends_well part piece
join_ends_well part (next ∷ parts) piece (a_piece _ _ one more) =
    append_ends_well part (47 ∷ join_with_byte 47 (next ∷ parts)) (append_ends_well (47 ∷ []) (join_with_byte 47 (next ∷ parts)) (join_ends_well next parts one more))

pub inner_of_path : (path : List (List ℕ)) → are_parts path ≡ true → inner (path_text path) ≡ join_with_byte 47 path
unfolding inner
inner_of_path [] e = refl
inner_of_path (fs ∷ names) e =
    let pieces = parts_of_path fs names e in
    let ends = join_ends_well fs names pieces.0 pieces.1 in
    ap (λ t. cond t (take (length (join_with_byte 47 (fs ∷ names)) - 1) (join_with_byte 47 (fs ∷ names))) (join_with_byte 47 (fs ∷ names))) ends.last

pub split_parts_of_path : (path : List (List ℕ)) → are_parts path ≡ true → split_parts (join_with_byte 47 path) ≡ path
unfolding split_parts
split_parts_of_path [] e = refl
split_parts_of_path (fs ∷ names) e =
    let pieces = parts_of_path fs names e in
    let ends = join_ends_well fs names pieces.0 pieces.1 in
    let some : eqb (length (join_with_byte 47 (fs ∷ names))) 0 ≡ false = not_zero _ ends.some in
    ap (λ t. cond t [] (slice_split is_slash (join_with_byte 47 (fs ∷ names)))) some ∙ split_join fs names pieces.0 pieces.1

-- no part of a path has a fault
name_is_fine : (place : ℕ) (name : List ℕ) → 0 < place → is_name name ≡ true → part_fault place name ≡ None
name_is_fine place name below e =
    let is = named name e in
    let some : eqb (length name) 0 ≡ false = not_zero _ (at_least 1 (length name) (omega arith) is.some) in
    rw (some, not_zero place below, is.no_dots, not_above (length name) 255 is.short) refl

names_are_fine : (place : ℕ) (names : List (List ℕ)) → 0 < place → list_all is_name names ≡ true → parts_fault place names ≡ None
names_are_fine place [] below e = refl
names_are_fine place (name ∷ names) below e =
    let parts = both_parts (is_name name) (list_all is_name names) e in
    rw (name_is_fine place name below parts.0) (names_are_fine (place + 1) names (omega arith) parts.1)

pub parts_are_fine : (path : List (List ℕ)) → are_parts path ≡ true → parts_fault 0 path ≡ None
parts_are_fine [] e = refl
parts_are_fine (fs ∷ names) e =
    let parts = both_parts (is_fs_name fs) (list_all is_name names) e in
    let some : eqb (length fs) 0 ≡ false = not_zero _ (fs_is_piece fs parts.0).nonempty in
    rw (some, parts.0) (names_are_fine 1 names (omega arith) parts.1)

pub size_is_fine : (path : List (List ℕ)) → KeepsLimits path → size_fault (join_with_byte 47 path) ≡ None
unfolding size_fault
size_is_fine path limits =
    let long = limits.length_within in
    let deep = limits.depth_within in
    let short : ltb 1024 (length (join_with_byte 47 path)) ≡ false = grind (arith, nat_tests) in
    let shallow : ltb 60 (length path) ≡ false = grind (arith, nat_tests) in
    rw (short, split_parts_of_path path limits.parts, shallow) (parts_are_fine path limits.parts)

-- a text is read by what stands between its ends
read_where : (text : List ℕ) (path : List (List ℕ)) → KeepsLimits path → is_slash (get_or text 0 0) ≡ true → IsUtf8 text → list_all (λ b. not (is_control b)) text ≡ true → inner text ≡ join_with_byte 47 path → plain_path text ≡ Ok path
unfolding plain_path text_fault
read_where text path limits slash utf8 clean between =
    let valid : eqb (utf8_valid_len text) (length text) ≡ true = eq-eqb _ _ (utf8_valid_len-IsUtf8 text utf8) in
    let clear : position is_control text ≡ None = nowhere is_control text clean in
    rw (slash, valid, clear, between, size_is_fine path limits, split_parts_of_path path limits.parts) refl

pub path_is_read : (path : List (List ℕ)) → KeepsLimits path → plain_path (path_text path) ≡ Ok path
path_is_read path limits =
    read_where (path_text path) path limits refl (path_utf8 path limits.parts) (path_control path limits.parts) (inner_of_path path limits.parts)

pub inner_of_ended : (rest : List ℕ) → inner ((47 ∷ rest) ++ 47 ∷ []) ≡ rest
unfolding inner
inner_of_ended rest =
    let long = length-append rest (47 ∷ []) in
    let place : length (rest ++ 47 ∷ []) - 1 ≡ length rest = omega arith in
    let at : length (rest ++ 47 ∷ []) - 1 ≡ length rest + 0 = omega arith in
    let last : is_slash (get_or (rest ++ 47 ∷ []) (length (rest ++ 47 ∷ []) - 1) 0) ≡ true = ap (λ n. is_slash (get_or (rest ++ 47 ∷ []) n 0)) at ∙ ap is_slash (get_or-append-add rest (47 ∷ []) 0 0) in
    ap (λ t. cond t (take (length (rest ++ 47 ∷ []) - 1) (rest ++ 47 ∷ [])) (rest ++ 47 ∷ [])) last
    ∙ ap (λ n. take n (rest ++ 47 ∷ [])) place
    ∙ take-append_seam rest (47 ∷ [])

pub ended_path_is_read : (path : List (List ℕ)) → KeepsLimits path → plain_path (path_text path ++ 47 ∷ []) ≡ Ok path
ended_path_is_read path limits =
    read_where (path_text path ++ 47 ∷ []) path limits refl
    (IsUtf8-append (path_text path) (47 ∷ []) (path_utf8 path limits.parts) (subst (λ (t : List ℕ). IsUtf8 t) (encode_ascii 47 (lit< tt)) (IsUtf8-encode 47 refl)))
    (list_all-append (λ b. not (is_control b)) (path_text path) (47 ∷ []) ∙ ap (λ t. t && true) (path_control path limits.parts))
    (inner_of_ended (join_with_byte 47 path))

pub spelled_is_read : (text : List ℕ) (path : List (List ℕ)) → KeepsLimits path → Spells text path → plain_path text ≡ Ok path
spelled_is_read text path limits is =
    ⊎_elim (λ e. ap plain_path e ∙ path_is_read path limits) (λ e. ap plain_path e ∙ ended_path_is_read path limits) is
