-- A text that is read as a path is the text of that path, and the path keeps the limits.
use Rattle.std.proofs.Common.{◌≡◌, ℕ, zero, suc, ◌+◌, ◌-◌, ◌<◌, ◌≤◌, ◌⊎◌, inl, inr, Bool, true, false, not, cond, eqb, ltb, nat_le, List, [], ◌∷◌, ◌++◌, length, get_or, take, Option, Some, None, option_map, Ok, IsUtf8, refl, sym, ap, ◌∙◌, subst, ⊎_elim, arith}
use Rattle.std.specs.List.{list_all, join_with_byte, slice_split, position, prefix_len}
use Rattle.std.specs.Str.{is_utf8}
use Rattle.std.specs.Str.Lossy.{utf8_valid_len, valid_len_up_to}
use Rattle.std.proofs.lemmas.Bool.{false≢true, cases_Bool, eqb-true}
use Rattle.std.proofs.lemmas.Bool.Decides.{nat_tests}
use Rattle.std.proofs.lemmas.List.{take_all, take_more}
use Rattle.std.proofs.lemmas.List.Folds.{list_all-append}
use Rattle.std.proofs.lemmas.List.Splits.{join_with_byte-slice_split}
use Rattle.std.proofs.lemmas.Str.{IsUtf8-nil, IsUtf8-from_is_utf8}
use Rattle.path_text.specs.declared.fault.PathFault.{PathFault}
use Rattle.path_text.specs.declared.fault.PathFault.TheVariants.{BadFsName, ControlByte, DotName, EmptyName, NameTooLong, PathTooLong, TooDeep}
use Rattle.path_text.specs.Names.{are_parts, is_control, is_dots, is_fs_name, is_name, is_slash}
use Rattle.path_text.specs.Texts.{path_text, KeepsLimits, Spells, inner, split_parts, part_fault, parts_fault, or_else, utf8_fault, size_fault, text_fault, plain_path, path_or_fault}
use Rattle.path_text.proofs.PlaceLemmas.{both_parts}
use Rattle.path_text.proofs.NameLemmas.{AreTexts, before_slash, behind_slash, joined_texts, name_from}
use Rattle.path_text.proofs.PlaceLemmas.{place_is_end}
use Rattle.path_text.proofs.SplitLemmas.{pieces_have_none}

-- ---- the slashes at the ends

pub ends_in_slash : (rest : List ℕ) → is_slash (get_or rest (length rest - 1) 0) ≡ true → rest ≡ take (length rest - 1) rest ++ 47 ∷ []
ends_in_slash [] e = absurd (false≢true e)
ends_in_slash (b ∷ rest) e =
    let last : get_or (b ∷ rest) (length (b ∷ rest) - 1) 0 ≡ 47 = eqb-true _ 47 e in
    let place : length (b ∷ rest) - 1 + 1 ≡ length (b ∷ rest) = omega arith in
    sym (take_all (length (b ∷ rest)) (b ∷ rest) (omega arith))
    ∙ ap (λ n. take n (b ∷ rest)) (sym place)
    ∙ take_more (b ∷ rest) (length (b ∷ rest) - 1) 0 (omega arith)
    ∙ ap (λ x. take (length (b ∷ rest) - 1) (b ∷ rest) ++ x ∷ []) last

pub text_is : (text : List ℕ) → is_slash (get_or text 0 0) ≡ true → (text ≡ 47 ∷ inner text) ⊎ (text ≡ (47 ∷ inner text) ++ 47 ∷ [])
unfolding inner
text_is [] e = absurd (false≢true e)
text_is (b ∷ rest) e =
    let first : b ≡ 47 = eqb-true b 47 e in
    ⊎_elim
    (λ ends. inr (ap (λ x. x ∷ rest) first ∙ ap (λ x. 47 ∷ x) (ends_in_slash rest ends) ∙ ap (λ t. (47 ∷ cond t (take (length rest - 1) rest) rest) ++ 47 ∷ []) (sym ends)))
    (λ goes. inl (ap (λ x. x ∷ rest) first ∙ ap (λ t. 47 ∷ cond t (take (length rest - 1) rest) rest) (sym goes)))
    (cases_Bool (is_slash (get_or rest (length rest - 1) 0)))

-- ---- what the questions say where there is no fault

pub no_fault : (a b : Option PathFault) → or_else a b ≡ None → (a ≡ None) × (b ≡ None)
no_fault None b e = (refl, e)
no_fault (Some fault) b e = cc

no_control_fault : (o : Option ℕ) → option_map ControlByte o ≡ None → o ≡ None
no_control_fault None e = refl
no_control_fault (Some at) e = cc

passes : (t : Bool) (fault : PathFault) (o : Option PathFault) → cond t (Some fault) o ≡ None → (t ≡ false) × (o ≡ None)
passes true fault o e = cc
passes false fault o e = (refl, e)

holds : (t : Bool) (fault : PathFault) (o : Option PathFault) → cond t o (Some fault) ≡ None → (t ≡ true) × (o ≡ None)
holds true fault o e = (refl, e)
holds false fault o e = cc

everywhere : (p : ℕ → Bool) (xs : List ℕ) → length xs ≤ prefix_len p xs → list_all p xs ≡ true
everywhere p [] e = refl
everywhere p (x ∷ xs) e =
    ⊎_elim
    (λ yes. rw yes (everywhere p xs (let more : length (x ∷ xs) ≤ 1 + prefix_len p xs = subst (λ (t : Bool). length (x ∷ xs) ≤ cond t (1 + prefix_len p xs) 0) yes e in omega arith)))
    (λ none. absurd (let less : length (x ∷ xs) ≤ 0 = subst (λ (t : Bool). length (x ∷ xs) ≤ cond t (1 + prefix_len p xs) 0) none e in omega arith))
    (cases_Bool (p x))

-- ---- UTF-8

valid_within : (text : List ℕ) (n : ℕ) → valid_len_up_to text n ≤ n
valid_within text zero = omega arith
valid_within text (suc n) =
    let before = valid_within text n in
    ⊎_elim
    (λ yes. rw yes (omega arith))
    (λ none. rw none (omega arith))
    (cases_Bool (is_utf8 (take (suc n) text)))

valid_at : (text : List ℕ) (n : ℕ) → length text ≡ n → valid_len_up_to text n ≡ n → IsUtf8 text
valid_at [] n long e = IsUtf8-nil
valid_at (b ∷ text) zero long e = absurd (omega arith)
valid_at (b ∷ text) (suc n) long e =
    let before = valid_within (b ∷ text) n in
    ⊎_elim
    (λ yes. subst (λ (t : List ℕ). IsUtf8 t) (take_all (suc n) (b ∷ text) (omega arith)) (IsUtf8-from_is_utf8 (take (suc n) (b ∷ text)) yes))
    (λ none. absurd (let less : valid_len_up_to (b ∷ text) n ≡ suc n = subst (λ (t : Bool). cond t (suc n) (valid_len_up_to (b ∷ text) n) ≡ suc n) none e in omega arith))
    (cases_Bool (is_utf8 (take (suc n) (b ∷ text))))

pub utf8_where_valid : (text : List ℕ) → utf8_valid_len text ≡ length text → IsUtf8 text
unfolding utf8_valid_len
utf8_where_valid text e = valid_at text (length text) refl e

-- ---- the parts

not_empty : (n : ℕ) → eqb n 0 ≡ false → nat_le 1 n ≡ true
not_empty n e = grind (arith, nat_tests)

not_long : (n k : ℕ) → ltb k n ≡ false → nat_le n k ≡ true
not_long n k e = grind (arith, nat_tests)

above_zero : (place : ℕ) → 0 < place → eqb place 0 ≡ false
above_zero place e = grind (arith, nat_tests)

is_name_where_fine : (place : ℕ) (part : List ℕ) → 0 < place → part_fault place part ≡ None → list_all (λ b. not (is_slash b)) part ≡ true
    → list_all (λ b. not (is_control b)) part ≡ true → is_utf8 part ≡ true → is_name part ≡ true
is_name_where_fine place part below e plain clear utf8 =
    let some = passes (eqb (length part) 0) _ _ e in
    let later = subst (λ (t : Bool). cond t (cond (is_fs_name part) None (Some BadFsName)) (cond (is_dots part) (Some (DotName place)) (cond (ltb 255 (length part)) (Some (NameTooLong place)) None)) ≡ None) (above_zero place below) some.1 in
    let dots = passes (is_dots part) _ _ later in
    let long = passes (ltb 255 (length part)) _ _ dots.1 in
    name_from part (record { some = not_empty (length part) some.0; short = not_long (length part) 255 long.0; no_dots = dots.0; no_slash = plain; no_control = clear; utf8 = utf8 })

names_where_fine : (place : ℕ) (parts : List (List ℕ)) → 0 < place → parts_fault place parts ≡ None → AreTexts parts → list_all is_name parts ≡ true
names_where_fine place [] below e are = refl
names_where_fine place (part ∷ parts) below e are =
    let here = no_fault (part_fault place part) (parts_fault (place + 1) parts) e in
    let plain = both_parts (list_all (λ b. not (is_slash b)) part) (list_all (list_all (λ b. not (is_slash b))) parts) are.no_slash in
    let clear = both_parts (list_all (λ b. not (is_control b)) part) (list_all (list_all (λ b. not (is_control b))) parts) are.no_control in
    let utf8 = both_parts (is_utf8 part) (list_all is_utf8 parts) are.utf8 in
    rw (is_name_where_fine place part below here.0 plain.0 clear.0 utf8.0)
    (names_where_fine (place + 1) parts (omega arith) here.1 (record { no_slash = plain.1; no_control = clear.1; utf8 = utf8.1 }))

pub parts_where_fine : (parts : List (List ℕ)) → parts_fault 0 parts ≡ None → AreTexts parts → are_parts parts ≡ true
parts_where_fine [] e are = refl
parts_where_fine (fs ∷ names) e are =
    let here = no_fault (part_fault 0 fs) (parts_fault 1 names) e in
    let some = passes (eqb (length fs) 0) (EmptyName 0) (cond (is_fs_name fs) None (Some BadFsName)) here.0 in
    let named = holds (is_fs_name fs) BadFsName None some.1 in
    let plain = both_parts (list_all (λ b. not (is_slash b)) fs) (list_all (list_all (λ b. not (is_slash b))) names) are.no_slash in
    let clear = both_parts (list_all (λ b. not (is_control b)) fs) (list_all (list_all (λ b. not (is_control b))) names) are.no_control in
    let utf8 = both_parts (is_utf8 fs) (list_all is_utf8 names) are.utf8 in
    rw named.0 (names_where_fine 1 names (omega arith) here.1 (record { no_slash = plain.1; no_control = clear.1; utf8 = utf8.1 }))

pub split_there : (rest : List ℕ) → eqb (length rest) 0 ≡ false → split_parts rest ≡ slice_split is_slash rest
unfolding split_parts
split_there rest some = ap (λ t. cond t [] (slice_split is_slash rest)) some

split_parts_have_no_slash : (rest : List ℕ) → list_all (list_all (λ b. not (is_slash b))) (split_parts rest) ≡ true
unfolding split_parts
split_parts_have_no_slash rest =
    ⊎_elim (λ yes. rw yes refl) (λ none. rw none (pieces_have_none is_slash rest)) (cases_Bool (eqb (length rest) 0))

join_split_parts : (rest : List ℕ) → join_with_byte 47 (split_parts rest) ≡ rest
unfolding split_parts
join_split_parts [] = refl
join_split_parts (b ∷ rest) =
    let some : eqb (length (b ∷ rest)) 0 ≡ false = grind (arith, nat_tests) in
    rw some (join_with_byte-slice_split 47 (b ∷ rest))

-- ---- the whole

pub found_nowhere : (p : ℕ → Bool) (xs : List ℕ) → position p xs ≡ None → list_all (λ b. not (p b)) xs ≡ true
found_nowhere p xs e = everywhere (λ b. not (p b)) xs (place_is_end p xs e)

-- what holds of each byte of the text holds of each byte of the path's
of_front : (p : ℕ → Bool) (text front : List ℕ) → (text ≡ front) ⊎ (text ≡ front ++ 47 ∷ []) → list_all p text ≡ true → list_all p front ≡ true
of_front p text front is all =
    ⊎_elim
    (λ e. ap (list_all p) (sym e) ∙ all)
    (λ e. (both_parts (list_all p front) (list_all p (47 ∷ [])) (sym (list_all-append p front (47 ∷ [])) ∙ ap (list_all p) (sym e) ∙ all)).0)
    is

tail_of : (p : ℕ → Bool) (b : ℕ) (rest : List ℕ) → list_all p (b ∷ rest) ≡ true → list_all p rest ≡ true
tail_of p b rest all = (both_parts (p b) (list_all p rest) all).1

within : (n k : ℕ) → ltb k n ≡ false → n ≤ k
within n k e = grind (arith, nat_tests)

no_text_fault : (text : List ℕ) → text_fault text ≡ None → (is_slash (get_or text 0 0) ≡ true) × (utf8_fault text ≡ None) × (position is_control text ≡ None) × (size_fault (inner text) ≡ None)
unfolding text_fault
no_text_fault text e =
    let slash = holds (is_slash (get_or text 0 0)) (EmptyName 0) _ e in
    let utf8 = no_fault (utf8_fault text) _ slash.1 in
    let control = no_fault (option_map ControlByte (position is_control text)) (size_fault (inner text)) utf8.1 in
    (slash.0, utf8.0, no_control_fault (position is_control text) control.0, control.1)

sizes_where_fine : (rest : List ℕ) → size_fault rest ≡ None → (length rest ≤ 1024) × (length (split_parts rest) ≤ 60) × (parts_fault 0 (split_parts rest) ≡ None)
unfolding size_fault
sizes_where_fine rest e =
    let short = passes (ltb 1024 (length rest)) PathTooLong _ e in
    let shallow = passes (ltb 60 (length (split_parts rest))) TooDeep _ short.1 in
    (within _ _ short.0, within _ _ shallow.0, shallow.1)

utf8_inner : (text : List ℕ) → is_slash (get_or text 0 0) ≡ true → IsUtf8 text → IsUtf8 (inner text)
utf8_inner text slash u =
    behind_slash [] (inner text)
    (⊎_elim (λ e. subst (λ (t : List ℕ). IsUtf8 t) e u) (λ e. before_slash (47 ∷ inner text) [] (subst (λ (t : List ℕ). IsUtf8 t) e u)) (text_is text slash))

-- the parts of a text that is UTF-8 without control bytes
pub parts_are_texts : (text : List ℕ) → is_slash (get_or text 0 0) ≡ true → IsUtf8 text → list_all (λ b. not (is_control b)) text ≡ true → AreTexts (split_parts (inner text))
parts_are_texts text slash utf8 clear =
    let joined = join_split_parts (inner text) in
    joined_texts (split_parts (inner text)) (split_parts_have_no_slash (inner text))
    (subst (λ (t : List ℕ). IsUtf8 t) (sym joined) (utf8_inner text slash utf8))
    (ap (list_all (λ b. not (is_control b))) joined ∙ tail_of (λ b. not (is_control b)) 47 (inner text) (of_front (λ b. not (is_control b)) text (47 ∷ inner text) (text_is text slash) clear))

pub text_of_path : (text : List ℕ) → text_fault text ≡ None → KeepsLimits (split_parts (inner text)) × ((text ≡ path_text (split_parts (inner text))) ⊎ (text ≡ path_text (split_parts (inner text)) ++ 47 ∷ []))
text_of_path text e =
    let facts = no_text_fault text e in
    let sizes = sizes_where_fine (inner text) facts.3 in
    let joined = join_split_parts (inner text) in
    let valid = holds (eqb (utf8_valid_len text) (length text)) _ _ facts.1 in
    let utf8 = utf8_where_valid text (eqb-true _ _ valid.0) in (
      record {
        parts = parts_where_fine (split_parts (inner text)) sizes.2 (parts_are_texts text facts.0 utf8 (found_nowhere is_control text facts.2));
        length_within = subst (λ (r : List ℕ). length r ≤ 1024) (sym joined) sizes.0;
        depth_within = sizes.1;
      },
      subst (λ (r : List ℕ). (text ≡ 47 ∷ r) ⊎ (text ≡ (47 ∷ r) ++ 47 ∷ [])) (sym joined) (text_is text facts.0),
    )

read_parts : (fault : Option PathFault) (path read : List (List ℕ)) → path_or_fault fault path ≡ Ok read → (fault ≡ None) × (path ≡ read)
read_parts None path read e = (refl, cc)
read_parts (Some fault) path read e = cc

pub path_is_spelled : (text : List ℕ) (path : List (List ℕ)) → plain_path text ≡ Ok path → KeepsLimits path × Spells text path
unfolding plain_path
path_is_spelled text path e =
    let read = read_parts (text_fault text) (split_parts (inner text)) path e in
    subst (λ (p : List (List ℕ)). KeepsLimits p × ((text ≡ path_text p) ⊎ (text ≡ path_text p ++ 47 ∷ []))) read.1 (text_of_path text read.0)
