-- A text has a fault exactly where the statement of it on the bytes holds.
use Rattle.std.proofs.Common.{◌≡◌, ℕ, zero, suc, ◌+◌, ◌-◌, ◌<◌, ◌≤◌, ◌⊎◌, inl, inr, Bool, true, false, not, cond, eqb, ltb, nat_le, List, [], ◌∷◌, ◌++◌, length, get_or, take, Option, Some, None, option_map, IsUtf8, refl, sym, ap, ◌∙◌, subst, ⊎_elim, length-append, arith}
use Rattle.std.specs.List.{list_all, join_with_byte, slice_split, position, position_or_len}
use Rattle.std.specs.Str.{IsValidUpTo, is_utf8}
use Rattle.std.specs.Str.Lossy.{utf8_valid_len, valid_len_up_to}
use Rattle.std.proofs.lemmas.Bool.{false≢true, cases_Bool, eqb-true, eq-eqb}
use Rattle.std.proofs.lemmas.Bool.Decides.{nat_tests}
use Rattle.std.proofs.lemmas.List.{get_or-append-add, take_all}
use Rattle.std.proofs.lemmas.List.Sums.{fails_before_first, passes_at_first, position_or_len_is}
use Rattle.std.proofs.lemmas.List.Splits.{join_with_byte-slice_split, length-slice_split}
use Rattle.std.proofs.lemmas.Str.{IsUtf8-nil, IsUtf8-from_is_utf8, is_utf8-from_IsUtf8, utf8_valid_len_le, utf8_valid_len-IsUtf8, utf8_valid_len-IsValidUpTo}
use Rattle.path_text.specs.declared.fault.PathFault.{PathFault}
use Rattle.path_text.specs.declared.fault.PathFault.TheVariants.{BadEscape, NotUtf8, EmptyName, DotName, NameTooLong, PathTooLong, TooDeep, ControlByte, BadFsName}
use Rattle.path_text.specs.Names.{is_control, is_dots, is_fs_name, is_slash}
use Rattle.path_text.specs.Texts.{BeginsWithSlash, inner, or_else, part_fault, parts_fault, size_fault, split_parts, text_fault, without_end}
use Rattle.path_text.specs.Faults.{AreSplit, IsBetween, IsFaultOfParts, IsFirst, IsFirstPartFault, IsPartFault, IsPathFault, IsPlainText, IsShortText}
use Rattle.path_text.proofs.PlaceLemmas.{chosen_some}
use Rattle.path_text.proofs.ReadLemmas.{inner_of_ended, not_zero, nowhere, parts_are_fine}
use Rattle.path_text.proofs.GrammarLemmas.{ends_in_slash, found_nowhere, parts_are_texts, parts_where_fine, utf8_where_valid}
use Rattle.path_text.proofs.NameLemmas.{AreTexts, dots_are_short, texts_front}
use Rattle.path_text.proofs.SplitLemmas.{pieces_have_none, split_join}

-- ---- the first place of a byte

pub place_is_first : (p : ℕ → Bool) (text : List ℕ) (at : ℕ) → position p text ≡ Some at → IsFirst p text at
place_is_first p text at e =
    let chosen = chosen_some _ _ at e in
    let inside : position_or_len p text < length text = below_end _ _ chosen.0 in
    subst (IsFirst p text) chosen.1 (record { within = inside; here = passes_at_first p text 0 inside; none_before = λ k below. fails_before_first p text k 0 below })
  where
    below_end : (a b : ℕ) → ltb a b ≡ true → a < b
    below_end a b e = grind (arith, nat_tests)

pub first_is_place : (p : ℕ → Bool) (text : List ℕ) (at : ℕ) → IsFirst p text at → position p text ≡ Some at
first_is_place p text at is =
    let within = is.within in
    let place : position_or_len p text ≡ at = position_or_len_is p text at 0 (omega arith) is.none_before (λ _. is.here) in
    let inside : ltb (position_or_len p text) (length text) ≡ true = at_end _ _ (length text) place within in
    ap (λ t. cond t (Some (position_or_len p text)) None) inside ∙ ap (λ n. Some n) place
  where
    at_end : (a b n : ℕ) → a ≡ b → b < n → ltb a n ≡ true
    at_end a b n e within = grind (arith, nat_tests)

-- ---- how far a text is UTF-8

valid_front : (text : List ℕ) (n : ℕ) → IsUtf8 (take (valid_len_up_to text n) text)
valid_front text zero = IsUtf8-nil
valid_front text (suc n) =
    ⊎_elim
    (λ yes. rw yes (IsUtf8-from_is_utf8 (take (suc n) text) yes))
    (λ none. rw none (valid_front text n))
    (cases_Bool (is_utf8 (take (suc n) text)))

last_or_before : (m n : ℕ) → m ≤ suc n → (m ≡ suc n) ⊎ (m ≤ n)
last_or_before m n within = ⊎_elim (λ yes. inr (before m n yes)) (λ none. inl (last m n within none)) (cases_Bool (nat_le m n))
  where
    before : (m n : ℕ) → nat_le m n ≡ true → m ≤ n
    before m n e = grind (arith, nat_tests)

    last : (m n : ℕ) → m ≤ suc n → nat_le m n ≡ false → m ≡ suc n
    last m n within e = grind (arith, nat_tests)

valid_longest : (text : List ℕ) (n m : ℕ) → valid_len_up_to text n < m → m ≤ n → ¬ (IsUtf8 (take m text))
valid_longest text zero m above within = absurd (let some : 0 < m = above in omega arith)
valid_longest text (suc n) m above within =
    ⊎_elim
    (λ yes. absurd (let more : suc n < m = subst (λ (t : Bool). cond t (suc n) (valid_len_up_to text n) < m) yes above in omega arith))
    (λ none. let later : valid_len_up_to text n < m = subst (λ (t : Bool). cond t (suc n) (valid_len_up_to text n) < m) none above in
    ⊎_elim
    (λ same u. false≢true (sym none ∙ is_utf8-from_IsUtf8 (take (suc n) text) (subst (λ (k : ℕ). IsUtf8 (take k text)) same u)))
    (λ before. valid_longest text n m later before)
    (last_or_before m n within))
    (cases_Bool (is_utf8 (take (suc n) text)))

front_is_valid : (text : List ℕ) → IsUtf8 (take (utf8_valid_len text) text)
unfolding utf8_valid_len
front_is_valid text = valid_front text (length text)

none_is_longer : (text : List ℕ) (m : ℕ) → utf8_valid_len text < m → m ≤ length text → ¬ (IsUtf8 (take m text))
unfolding utf8_valid_len
none_is_longer text m above within = valid_longest text (length text) m above within

valid_where : (text : List ℕ) → eqb (utf8_valid_len text) (length text) ≡ false → IsValidUpTo text (utf8_valid_len text)
valid_where text e =
    let short : utf8_valid_len text < length text = below_end _ _ (utf8_valid_len_le text) e in
    record { short = short; front = front_is_valid text; longest = λ m above. longest_of text m short above (cases_Bool (nat_le m (length text))) }
  where
    below_end : (a b : ℕ) → a ≤ b → eqb a b ≡ false → a < b
    below_end a b within e = grind (arith, nat_tests)

    before_end : (m n : ℕ) → nat_le m n ≡ true → m ≤ n
    before_end m n e = grind (arith, nat_tests)

    behind_end : (m n : ℕ) → nat_le m n ≡ false → n ≤ m
    behind_end m n e = grind (arith, nat_tests)

    longest_of : (text : List ℕ) (m : ℕ) → utf8_valid_len text < length text → utf8_valid_len text < m → (nat_le m (length text) ≡ true) ⊎ (nat_le m (length text) ≡ false) → ¬ (IsUtf8 (take m text))
    longest_of text m short above (inl within) = none_is_longer text m above (before_end m (length text) within)
    longest_of text m short above (inr past) =
        λ u. none_is_longer text (length text) short (omega arith)
        (subst (λ (t : List ℕ). IsUtf8 t) (take_all m text (behind_end m (length text) past) ∙ sym (take_all (length text) text (omega arith))) u)

-- ---- the fault of one part

some_is : (a b : PathFault) → Some a ≡ Some b → a ≡ b
some_is a b e = cc

pub no_length : (part : List ℕ) → eqb (length part) 0 ≡ true → part ≡ []
no_length [] e = refl
no_length (b ∷ part) e = absurd (false≢true (sym (not_zero (length (b ∷ part)) (omega arith)) ∙ e))

some_length : (n : ℕ) → eqb n 0 ≡ false → 0 < n
some_length n e = grind (arith, nat_tests)

zero_is : (n : ℕ) → eqb n 0 ≡ true → n ≡ 0
zero_is n e = eqb-true n 0 e

above : (k n : ℕ) → ltb k n ≡ true → k < n
above k n e = grind (arith, nat_tests)

above_tells : (k n : ℕ) → k < n → ltb k n ≡ true
above_tells k n e = grind (arith, nat_tests)

within_tells : (k n : ℕ) → n ≤ k → ltb k n ≡ false
within_tells k n e = grind (arith, nat_tests)

within : (k n : ℕ) → ltb k n ≡ false → n ≤ k
within k n e = grind (arith, nat_tests)

by_tests : (place : ℕ) (part : List ℕ) (f : PathFault) (empty first named dots long : Bool)
    → eqb (length part) 0 ≡ empty → eqb place 0 ≡ first → is_fs_name part ≡ named → is_dots part ≡ dots → ltb 255 (length part) ≡ long
    → cond empty (Some (EmptyName place)) (cond first (cond named None (Some BadFsName)) (cond dots (Some (DotName place)) (cond long (Some (NameTooLong place)) None))) ≡ Some f
    → IsPartFault place part f
by_tests place part f true first named dots long e1 e2 e3 e4 e5 is = subst (IsPartFault place part) (some_is _ f is) (refl, no_length part e1)
by_tests place part f false true true dots long e1 e2 e3 e4 e5 is = cc
by_tests place part f false true false dots long e1 e2 e3 e4 e5 is = subst (IsPartFault place part) (some_is _ f is) (zero_is place e2, some_length (length part) e1, e3)
by_tests place part f false false named true long e1 e2 e3 e4 e5 is = subst (IsPartFault place part) (some_is _ f is) (refl, some_length place e2, e4)
by_tests place part f false false named false true e1 e2 e3 e4 e5 is = subst (IsPartFault place part) (some_is _ f is) (refl, some_length place e2, above 255 (length part) e5)
by_tests place part f false false named false false e1 e2 e3 e4 e5 is = cc

fault_of_part : (place : ℕ) (part : List ℕ) (f : PathFault) → part_fault place part ≡ Some f → IsPartFault place part f
fault_of_part place part f e =
    by_tests place part f (eqb (length part) 0) (eqb place 0) (is_fs_name part) (is_dots part) (ltb 255 (length part)) refl refl refl refl refl e

no_dots : (part : List ℕ) → 255 < length part → is_dots part ≡ false
no_dots part long = ⊎_elim (λ yes. absurd (let short = (dots_are_short part yes).1 in omega arith)) (λ none. none) (cases_Bool (is_dots part))

part_of_fault : (place : ℕ) (part : List ℕ) (f : PathFault) → IsPartFault place part f → part_fault place part ≡ Some f
part_of_fault place part (BadEscape at) h = absurd h
part_of_fault place part (NotUtf8 at) h = absurd h
part_of_fault place part (ControlByte at) h = absurd h
part_of_fault place part PathTooLong h = absurd h
part_of_fault place part TooDeep h = absurd h
part_of_fault place part (EmptyName at) h = rw (h.1, h.0) refl
part_of_fault place part BadFsName h = rw (not_zero (length part) h.1, h.0, h.2) refl
part_of_fault place part (DotName at) h =
    rw (not_zero (length part) (dots_are_short part h.2).0, not_zero place h.1, h.2, h.0) refl
part_of_fault place part (NameTooLong at) h =
    let long = h.2 in
    rw (not_zero (length part) (omega arith), not_zero place h.1, no_dots part h.2, above_tells 255 (length part) h.2, h.0) refl

-- ---- the first fault of the parts

record Found (start : ℕ) (parts : List (List ℕ)) (f : PathFault) : Type 0 where
  front : List (List ℕ)
  part : List ℕ
  back : List (List ℕ)
  parted : parts ≡ front ++ part ∷ back
  before : parts_fault start front ≡ None
  here : part_fault (start + length front) part ≡ Some f

found : (start : ℕ) (parts : List (List ℕ)) (f : PathFault) → parts_fault start parts ≡ Some f → Found start parts f
found start [] f e = cc
found start (part ∷ parts) f e = at_part (λ h. found (start + 1) parts f h) (part_fault start part) refl e
  where
    at_part : (parts_fault (start + 1) parts ≡ Some f → Found (start + 1) parts f) → (o : Option PathFault) → part_fault start part ≡ o → or_else o (parts_fault (start + 1) parts) ≡ Some f → Found start (part ∷ parts) f
    at_part behind (Some g) is e = record {
      front = [];
      part = part;
      back = parts;
      parted = refl;
      before = refl;
      here = let place : start + 0 ≡ start = omega arith in ap (λ n. part_fault n part) place ∙ is ∙ e;
    }
    at_part behind None is e =
        let more = behind e in
        record {
          front = part ∷ more.front;
          part = more.part;
          back = more.back;
          parted = ap (λ x. part ∷ x) more.parted;
          before = ap (λ o. or_else o (parts_fault (start + 1) more.front)) is ∙ more.before;
          here = let place : start + length (part ∷ more.front) ≡ start + 1 + length more.front = omega arith in ap (λ n. part_fault n more.part) place ∙ more.here;
        }

found_is : (start : ℕ) (front : List (List ℕ)) (part : List ℕ) (back : List (List ℕ)) (f : PathFault)
    → parts_fault start front ≡ None → part_fault (start + length front) part ≡ Some f → parts_fault start (front ++ part ∷ back) ≡ Some f
found_is start [] part back f before here =
    let place : start ≡ start + 0 = omega arith in
    ap (λ o. or_else o (parts_fault (start + 1) back)) (ap (λ n. part_fault n part) place ∙ here)
found_is start (first ∷ front) part back f before here =
    let fine = none_of (part_fault start first) (parts_fault (start + 1) front) before in
    let place : start + 1 + length front ≡ start + length (first ∷ front) = omega arith in
    ap (λ o. or_else o (parts_fault (start + 1) (front ++ part ∷ back))) fine.0
    ∙ found_is (start + 1) front part back f fine.1 (ap (λ n. part_fault n part) place ∙ here)
  where
    none_of : (a b : Option PathFault) → or_else a b ≡ None → (a ≡ None) × (b ≡ None)
    none_of None b e = (refl, e)
    none_of (Some g) b e = cc

first_of_parts : (parts : List (List ℕ)) (f : PathFault) → AreTexts parts → parts_fault 0 parts ≡ Some f → IsFirstPartFault parts f
first_of_parts parts f are e =
    let at = found 0 parts f e in
    let place : length at.front ≡ 0 + length at.front = omega arith in
    record {
      front = at.front;
      part = at.part;
      back = at.back;
      parted = at.parted;
      before = parts_where_fine at.front at.before (texts_front at.front (at.part ∷ at.back) (subst AreTexts at.parted are));
      here = fault_of_part (length at.front) at.part f (ap (λ n. part_fault n at.part) place ∙ at.here);
    }

parts_of_first : (parts : List (List ℕ)) (f : PathFault) → IsFirstPartFault parts f → parts_fault 0 parts ≡ Some f
parts_of_first parts f is =
    let place : 0 + length is.front ≡ length is.front = omega arith in
    ap (parts_fault 0) is.parted
    ∙ found_is 0 is.front is.part is.back f (parts_are_fine is.front is.before) (ap (λ n. part_fault n is.part) place ∙ part_of_fault (length is.front) is.part f is.here)

-- ---- what stands between the slashes

pub begins : (text : List ℕ) → is_slash (get_or text 0 0) ≡ true → BeginsWithSlash text
begins [] e = absurd (false≢true e)
begins (b ∷ rest) e = (rest, ap (λ x. x ∷ rest) (eqb-true b 47 e))

pub slash_of : (text : List ℕ) → BeginsWithSlash text → is_slash (get_or text 0 0) ≡ true
slash_of text h = ap (λ t. is_slash (get_or t 0 0)) h.1

pub no_slash_of : (text : List ℕ) → ¬ (BeginsWithSlash text) → is_slash (get_or text 0 0) ≡ false
no_slash_of text none = ⊎_elim (λ yes. absurd (none (begins text yes))) (λ e. e) (cases_Bool (is_slash (get_or text 0 0)))

last_is : (front : List ℕ) → get_or (front ++ 47 ∷ []) (length (front ++ 47 ∷ []) - 1) 0 ≡ 47
last_is front =
    let long = length-append front (47 ∷ []) in
    let place : length (front ++ 47 ∷ []) - 1 ≡ length front + 0 = omega arith in
    ap (λ n. get_or (front ++ 47 ∷ []) n 0) place ∙ get_or-append-add front (47 ∷ []) 0 0

between_ends : (rest : List ℕ) → IsBetween (47 ∷ rest) (without_end rest)
between_ends rest =
    ⊎_elim
    (λ ends. inl (ap (λ x. 47 ∷ x) (ends_in_slash rest ends) ∙ ap (λ t. (47 ∷ cond t (take (length rest - 1) rest) rest) ++ 47 ∷ []) (sym ends)))
    (λ goes. inr (ap (λ t. 47 ∷ cond t (take (length rest - 1) rest) rest) (sym goes), not_ended goes))
    (cases_Bool (is_slash (get_or rest (length rest - 1) 0)))
  where
    not_ended : is_slash (get_or rest (length rest - 1) 0) ≡ false → (front : List ℕ) → ¬ (without_end rest ≡ front ++ 47 ∷ [])
    not_ended goes front e =
        let same : rest ≡ front ++ 47 ∷ [] = ap (λ t. cond t (take (length rest - 1) rest) rest) (sym goes) ∙ e in
        false≢true (sym goes ∙ ap (λ (t : List ℕ). is_slash (get_or t (length t - 1) 0)) same ∙ ap is_slash (last_is front))

between : (text : List ℕ) → BeginsWithSlash text → IsBetween text (inner text)
unfolding inner
between text h = subst (λ (t : List ℕ). IsBetween t (inner t)) (sym h.1) (between_ends h.0)

inner_is : (text rest : List ℕ) → IsBetween text rest → inner text ≡ rest
unfolding inner
inner_is text rest is =
    ⊎_elim
    (λ e. ap inner e ∙ inner_of_ended rest)
    (λ h. ap inner h.0 ∙ ⊎_elim (λ ends. absurd (h.1 (take (length rest - 1) rest) (ends_in_slash rest ends))) (λ goes. ap (λ t. cond t (take (length rest - 1) rest) rest) goes) (cases_Bool (is_slash (get_or rest (length rest - 1) 0))))
    is

are_split : (rest : List ℕ) (parts : List (List ℕ)) → 0 < length rest → 0 < length parts → rest ≡ join_with_byte 47 parts → list_all (list_all (λ b. not (is_slash b))) parts ≡ true → AreSplit rest parts
are_split rest [] some more e plain = absurd (omega arith)
are_split rest (part ∷ parts) some more e plain = (some, e, plain)

splits : (rest : List ℕ) → AreSplit rest (split_parts rest)
unfolding split_parts
splits [] = refl
splits (b ∷ rest) =
    let some : eqb (length (b ∷ rest)) 0 ≡ false = not_zero (length (b ∷ rest)) (omega arith) in
    let many = length-slice_split is_slash (b ∷ rest) in
    subst (AreSplit (b ∷ rest)) (sym (ap (λ t. cond t [] (slice_split is_slash (b ∷ rest))) some))
    (are_split (b ∷ rest) (slice_split is_slash (b ∷ rest)) (omega arith) (omega (arith, many)) (sym (join_with_byte-slice_split 47 (b ∷ rest))) (pieces_have_none is_slash (b ∷ rest)))

split_is : (rest : List ℕ) (parts : List (List ℕ)) → AreSplit rest parts → split_parts rest ≡ parts
unfolding split_parts
split_is rest [] e = ap split_parts e
split_is rest (part ∷ parts) h =
    ap (λ t. cond t [] (slice_split is_slash rest)) (not_zero (length rest) h.0) ∙ ap (slice_split is_slash) h.1 ∙ split_join is_slash 47 refl part parts h.2

-- ---- a fault of a text is stated on its bytes

of_parts : (text : List ℕ) (f : PathFault) → IsFaultOfParts text f → IsPathFault text f
of_parts text (BadEscape at) h = h.first.here
of_parts text (NotUtf8 at) h = absurd h.first.here
of_parts text (ControlByte at) h = absurd h.first.here
of_parts text PathTooLong h = absurd h.first.here
of_parts text TooDeep h = absurd h.first.here
of_parts text (EmptyName at) h = inr h
of_parts text BadFsName h = h
of_parts text (DotName at) h = h
of_parts text (NameTooLong at) h = h

short_text : (text : List ℕ) → IsPlainText text → length (inner text) ≤ 1024 → IsShortText text (split_parts (inner text))
short_text text plain short = record { plain = plain; rest = inner text; between = between text plain.slash; short = short; split = splits (inner text) }

fault_of_size : (text : List ℕ) (f : PathFault) → IsPlainText text → size_fault (inner text) ≡ Some f → IsPathFault text f
unfolding size_fault
fault_of_size text f plain e =
    ⊎_elim
    (λ long. subst (IsPathFault text) (some_is PathTooLong f (subst (λ (t : Bool). cond t (Some PathTooLong) (cond (ltb 60 (length parts)) (Some TooDeep) (parts_fault 0 parts)) ≡ Some f) long e))
    (plain, (inner text, between text plain.slash, above 1024 (length (inner text)) long)))
    (λ short. of_depth (within 1024 (length (inner text)) short) (subst (λ (t : Bool). cond t (Some PathTooLong) (cond (ltb 60 (length parts)) (Some TooDeep) (parts_fault 0 parts)) ≡ Some f) short e))
    (cases_Bool (ltb 1024 (length (inner text))))
  where
    parts : List (List ℕ)
    parts = split_parts (inner text)

    of_depth : length (inner text) ≤ 1024 → cond (ltb 60 (length parts)) (Some TooDeep) (parts_fault 0 parts) ≡ Some f → IsPathFault text f
    of_depth short e =
        ⊎_elim
        (λ deep. subst (IsPathFault text) (some_is TooDeep f (subst (λ (t : Bool). cond t (Some TooDeep) (parts_fault 0 parts) ≡ Some f) deep e))
        (parts, short_text text plain short, above 60 (length parts) deep))
        (λ shallow. of_parts text f (record {
          parts = parts;
          text_is = short_text text plain short;
          shallow = within 60 (length parts) shallow;
          first = first_of_parts parts f (parts_are_texts text (slash_of text plain.slash) plain.utf8 plain.no_control) (subst (λ (t : Bool). cond t (Some TooDeep) (parts_fault 0 parts) ≡ Some f) shallow e);
        }))
        (cases_Bool (ltb 60 (length parts)))

pub fault_of_text : (text : List ℕ) (f : PathFault) → text_fault text ≡ Some f → IsPathFault text f
unfolding text_fault
fault_of_text text f e =
    ⊎_elim
    (λ slash. behind_slash (begins text slash) (subst (λ (t : Bool). cond t (or_else utf8_part (or_else control_part (size_fault (inner text)))) (Some (EmptyName 0)) ≡ Some f) slash e))
    (λ none. subst (IsPathFault text) (some_is (EmptyName 0) f (subst (λ (t : Bool). cond t (or_else utf8_part (or_else control_part (size_fault (inner text)))) (Some (EmptyName 0)) ≡ Some f) none e))
    (inl (refl, λ h. false≢true (sym none ∙ slash_of text h))))
    (cases_Bool (is_slash (get_or text 0 0)))
  where
    utf8_part : Option PathFault
    utf8_part = cond (eqb (utf8_valid_len text) (length text)) None (Some (NotUtf8 (utf8_valid_len text)))

    control_part : Option PathFault
    control_part = option_map ControlByte (position is_control text)

    at_control : (o : Option ℕ) → BeginsWithSlash text → IsUtf8 text → position is_control text ≡ o → or_else (option_map ControlByte o) (size_fault (inner text)) ≡ Some f → IsPathFault text f
    at_control (Some at) slash utf8 is e = subst (IsPathFault text) (some_is (ControlByte at) f e) (slash, utf8, place_is_first is_control text at is)
    at_control None slash utf8 is e =
        fault_of_size text f (record { slash = slash; utf8 = utf8; no_control = found_nowhere is_control text is }) e

    behind_slash : BeginsWithSlash text → or_else utf8_part (or_else control_part (size_fault (inner text))) ≡ Some f → IsPathFault text f
    behind_slash slash e =
        ⊎_elim
        (λ valid. at_control (position is_control text) slash (utf8_where_valid text (eqb-true _ _ valid)) refl
        (subst (λ (t : Bool). or_else (cond t None (Some (NotUtf8 (utf8_valid_len text)))) (or_else control_part (size_fault (inner text))) ≡ Some f) valid e))
        (λ stops. subst (IsPathFault text)
        (some_is (NotUtf8 (utf8_valid_len text)) f (subst (λ (t : Bool). or_else (cond t None (Some (NotUtf8 (utf8_valid_len text)))) (or_else control_part (size_fault (inner text))) ≡ Some f) stops e))
        (slash, valid_where text stops))
        (cases_Bool (eqb (utf8_valid_len text) (length text)))

-- ---- and where the statement holds, it is the fault

passed : (text : List ℕ) → IsPlainText text → text_fault text ≡ size_fault (inner text)
unfolding text_fault
passed text plain =
    let valid : eqb (utf8_valid_len text) (length text) ≡ true = eq-eqb _ _ (utf8_valid_len-IsUtf8 text plain.utf8) in
    let clear : position is_control text ≡ None = nowhere is_control text plain.no_control in
    rw (slash_of text plain.slash, valid, clear) refl

long_size : (rest : List ℕ) → 1024 < length rest → size_fault rest ≡ Some PathTooLong
unfolding size_fault
long_size rest long = rw (above_tells 1024 (length rest) long) refl

deep_size : (rest : List ℕ) (parts : List (List ℕ)) → length rest ≤ 1024 → AreSplit rest parts → 60 < length parts → size_fault rest ≡ Some TooDeep
unfolding size_fault
deep_size rest parts short split deep = rw (within_tells 1024 (length rest) short, split_is rest parts split, above_tells 60 (length parts) deep) refl

parts_size : (rest : List ℕ) (parts : List (List ℕ)) → length rest ≤ 1024 → AreSplit rest parts → length parts ≤ 60 → size_fault rest ≡ parts_fault 0 parts
unfolding size_fault
parts_size rest parts short split shallow = rw (within_tells 1024 (length rest) short, split_is rest parts split, within_tells 60 (length parts) shallow) refl

text_of_parts : (text : List ℕ) (f : PathFault) → IsFaultOfParts text f → text_fault text ≡ Some f
text_of_parts text f h =
    let is = h.text_is in
    passed text is.plain
    ∙ ap size_fault (inner_is text is.rest is.between)
    ∙ parts_size is.rest h.parts is.short is.split h.shallow
    ∙ parts_of_first h.parts f h.first

pub text_of_fault : (text : List ℕ) (f : PathFault) → IsPathFault text f → text_fault text ≡ Some f
unfolding text_fault
text_of_fault text (BadEscape at) h = absurd h
text_of_fault text (NotUtf8 at) h =
    let valid = utf8_valid_len-IsValidUpTo text at h.1 in
    let short = h.1.short in
    let stops : eqb (utf8_valid_len text) (length text) ≡ false = differ _ at (length text) valid short in
    rw (slash_of text h.0, stops, valid) refl
  where
    differ : (a b n : ℕ) → a ≡ b → b < n → eqb a n ≡ false
    differ a b n e within = grind (arith, nat_tests)
text_of_fault text (ControlByte at) h =
    let valid : eqb (utf8_valid_len text) (length text) ≡ true = eq-eqb _ _ (utf8_valid_len-IsUtf8 text h.1) in
    rw (slash_of text h.0, valid, first_is_place is_control text at h.2) refl
text_of_fault text PathTooLong h =
    passed text h.0 ∙ ap size_fault (inner_is text h.1.0 h.1.1) ∙ long_size h.1.0 h.1.2
text_of_fault text TooDeep h =
    let is = h.1 in
    passed text is.plain ∙ ap size_fault (inner_is text is.rest is.between) ∙ deep_size is.rest h.0 is.short is.split h.2
text_of_fault text (EmptyName at) h =
    ⊎_elim
    (λ none. rw (no_slash_of text none.1, none.0) refl)
    (λ parts. text_of_parts text (EmptyName at) parts)
    h
text_of_fault text BadFsName h = text_of_parts text BadFsName h
text_of_fault text (DotName at) h = text_of_parts text (DotName at) h
text_of_fault text (NameTooLong at) h = text_of_parts text (NameTooLong at) h
