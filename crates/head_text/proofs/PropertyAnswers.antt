-- A text is read exactly where it is a text of properties, and refused as it should be.
use Rattle.std.proofs.Common.{◌≡◌, ℕ, suc, ◌+◌, ◌<◌, ◌≤◌, true, false, ◌==◌, cond, nat_lt, bytes_eq, IsTrue, List, [], ◌∷◌, ◌++◌, length, Result, Ok, Err, IfOk, refl, sym, ap, subst, ◌∙◌, append_assoc, append-nil, arith}
use Rattle.std.specs.List.{list_all, slice_split, onto_first, AllZip, AllByRecursion}
use Rattle.std.specs.List.Sorted.{IsPermutation}
use Rattle.std.specs.FinMap.{put, is_sorted}
use Rattle.std.proofs.lemmas.Bool.{ltb-true}
use Rattle.std.proofs.lemmas.Bool.Decides.{nat_tests}
use Rattle.std.proofs.lemmas.List.Elements.{recursion_from_All, All-from_recursion}
use Rattle.std.proofs.lemmas.List.Sorted.{IsPermutation-refl, IsPermutation-sym, IsPermutation-trans, IsPermutation-cons, IsPermutation-to_front, IsPermutation-insert, length_permutation, All-permutation, list_any-IsPermutation}
use Rattle.head_text.specs.declared.props_fault.PropsFault.{PropsFault}
use Rattle.head_text.specs.declared.props_fault.PropsFault.TheVariants.{BadPair, BadBase64, Twice, TooMany}
use Rattle.head_text.specs.declared.props_fault.PropsStop.{PropsStop}
use Rattle.head_text.specs.declared.props_fault.PropsStop.TheVariants as stop
use Rattle.head_text.specs.ETags.{is_comma}
use Rattle.head_text.specs.Properties.{Property, IsProperty, IsProperties, name_cmp, is_byte}
use Rattle.head_text.specs.PropertyPlaces.{place_of}
use Rattle.head_text.specs.PropertyStops.{Answers}
use Rattle.head_text.specs.PropertyTexts.{IsPair, SpellsProperty, Spell, IsPropertiesText, IsFirstFault, IsNoPair, IsNoBase64, IsRepeat, IsTextFault, items_of, is_named, and_then, property_said, with_property, read_from, properties_of}
use Rattle.head_text.proofs.PropertyLemmas.{both, both_are, put_is}
use Rattle.head_text.proofs.PropertyGrammar.{Said, property_read, said_is}
use Rattle.head_text.proofs.PropertyOrder.{count, counts_twice, named_there, there_named, permuted_once, put_in_order, same_in_order}

-- ---- one property more

zip_push : (items : List (List ℕ)) (listed : List Property) (item : List ℕ) (p : Property) → AllZip SpellsProperty items listed → SpellsProperty item p
    → AllZip SpellsProperty (items ++ item ∷ []) (listed ++ p ∷ [])
zip_push [] [] item p s h = (h, tt)
zip_push [] (q ∷ listed) item p s h = absurd s
zip_push (t ∷ items) [] item p s h = absurd s
zip_push (t ∷ items) (q ∷ listed) item p s h = (s.0, zip_push items listed item p s.1 h)

put_moves : (pairs : List Property) (p : Property) → is_named p.0 pairs ≡ false → IsPermutation (p ∷ pairs) (put name_cmp p.0 p.1 pairs)
put_moves pairs p new =
    subst (IsPermutation (p ∷ pairs)) (sym (put_is p.0 p.1 pairs new).1) (IsPermutation-insert pairs (place_of p.0 pairs) p)

-- properties with one more at the end, in order
moved_more : (listed pairs : List Property) (p : Property) → IsPermutation listed pairs → is_named p.0 pairs ≡ false → IsPermutation (listed ++ p ∷ []) (put name_cmp p.0 p.1 pairs)
moved_more listed pairs p moved new =
    IsPermutation-trans (listed ++ p ∷ []) (p ∷ listed) (put name_cmp p.0 p.1 pairs) (IsPermutation-to_front listed p)
    (IsPermutation-trans (p ∷ listed) (p ∷ pairs) (put name_cmp p.0 p.1 pairs) (IsPermutation-cons p listed pairs moved) (put_moves pairs p new))

spell_more : (items : List (List ℕ)) (pairs : List Property) (item : List ℕ) (p : Property) → Spell items pairs → SpellsProperty item p → is_named p.0 pairs ≡ false
    → Spell (items ++ item ∷ []) (put name_cmp p.0 p.1 pairs)
spell_more items pairs item p s h new = record {
  listed = s.listed ++ p ∷ [];
  spelled = zip_push items s.listed item p s.spelled h;
  rearranged = moved_more s.listed pairs p s.rearranged new;
  in_order = put_in_order p.0 p.1 pairs s.in_order;
}

-- ---- what is read is spelled, and what is refused has the fault

abbrev IsItemsFault : List (List ℕ) → PropsFault → Type 0
IsItemsFault items TooMany = ⊥
IsItemsFault items (BadPair i) = IsFirstFault IsNoPair items i
IsItemsFault items (BadBase64 i) = IsFirstFault IsNoBase64 items i
IsItemsFault items (Twice i) = IsFirstFault IsRepeat items i

abbrev ReadIs : List (List ℕ) → Result (List Property) PropsFault → Type 0
ReadIs items (Ok pairs) = Spell items pairs
ReadIs items (Err f) = IsItemsFault items f

abbrev IsByteText : List ℕ → Type 0
IsByteText t = list_all is_byte t ≡ true

read_on_is : (item : List ℕ) (items front : List (List ℕ)) (pairs : List Property) (i : ℕ) → Spell front pairs → length front ≡ i
    → (said : Result Property PropsFault) → Said i item said
    → (next : (p : Property) → SpellsProperty item p → is_named p.0 pairs ≡ false → ReadIs (front ++ item ∷ items) (read_from (i + 1) (put name_cmp p.0 p.1 pairs) items))
    → ReadIs (front ++ item ∷ items) (and_then (and_then said (with_property i pairs)) (λ more. read_from (i + 1) more items))
unfolding with_property
read_on_is item items front pairs i s e (Err (BadPair j)) is next =
    record { front = front; item = item; back = items; parts = refl; place = e ∙ sym is.0; before = pairs; spelled = s; fault = is.1 }
read_on_is item items front pairs i s e (Err (BadBase64 j)) is next =
    record { front = front; item = item; back = items; parts = refl; place = e ∙ sym is.0; before = pairs; spelled = s; fault = (is.1, is.2) }
read_on_is item items front pairs i s e (Err (Twice j)) is next = absurd is
read_on_is item items front pairs i s e (Err TooMany) is next = absurd is
read_on_is item items front pairs i s e (Ok p) spelled next =
    elim (is_named p.0 pairs) as (λ b. is_named p.0 pairs ≡ b →
    ReadIs (front ++ item ∷ items) (and_then (cond b (Err (Twice i)) (Ok (put name_cmp p.0 p.1 pairs))) (λ more. read_from (i + 1) more items))) [
      | true ↦ λ again.
          record { front = front; item = item; back = items; parts = refl; place = e; before = pairs; spelled = s; fault = (p, spelled, named_there p.0 pairs again) }
      | false ↦ λ new. next p spelled new
    ] refl

one_longer : (front : List (List ℕ)) (item : List ℕ) (i : ℕ) → length front ≡ i → length (front ++ item ∷ []) ≡ i + 1
one_longer [] item i e = omega (arith, e)
one_longer (t ∷ front) item i e = let rest = one_longer front item (length front) refl in omega (arith, e, rest)

read_is : (items front : List (List ℕ)) (pairs : List Property) (i : ℕ) → AllByRecursion IsByteText items → Spell front pairs → length front ≡ i
    → ReadIs (front ++ items) (read_from i pairs items)
read_is [] front pairs i bytes s e = subst (λ l. Spell l pairs) (sym (append-nil front)) s
read_is (item ∷ items) front pairs i bytes s e =
    read_on_is item items front pairs i s e (property_said i item) (said_is i item bytes.0)
    (λ p spelled new.
    subst (λ l. ReadIs l (read_from (i + 1) (put name_cmp p.0 p.1 pairs) items)) (append_assoc front (item ∷ []) items)
    (read_is items (front ++ item ∷ []) (put name_cmp p.0 p.1 pairs) (i + 1) bytes.1 (spell_more front pairs item p s spelled new) (one_longer front item i e)))

none_spelled : Spell [] []
none_spelled = record { listed = []; spelled = tt; rearranged = IsPermutation-refl []; in_order = refl }

-- ---- what is spelled is read

record IsRead (items : List (List ℕ)) (listed pairs : List Property) (i : ℕ) : Type 0 where
  all : List Property
  read : read_from i pairs items ≡ Ok all
  moved : IsPermutation listed all
  in_order : IsTrue (is_sorted name_cmp all)

is_new : (p : Property) (before pairs after : List Property) → IsPermutation before pairs → ((k : List ℕ) → count k (before ++ p ∷ after) ≤ 1) → is_named p.0 pairs ≡ false
is_new p before pairs after moved once =
    elim (is_named p.0 pairs) as (λ b. is_named p.0 pairs ≡ b → b ≡ false) [
      | true ↦ λ again.
          let two = counts_twice p.0 p.1 before after (list_any-IsPermutation (λ q. bytes_eq q.0 p.0) before pairs moved ∙ again) in
          let one = once p.0 in
          absurd (omega (arith, two, one))
      | false ↦ λ _. refl
    ] refl

read_all : (items : List (List ℕ)) (listed before pairs : List Property) (i : ℕ) → AllZip SpellsProperty items listed → IsPermutation before pairs
    → IsTrue (is_sorted name_cmp pairs) → ((k : List ℕ) → count k (before ++ listed) ≤ 1) → IsRead items (before ++ listed) pairs i
unfolding with_property
read_all [] [] before pairs i s moved up once =
    record { all = pairs; read = refl; moved = subst (λ l. IsPermutation l pairs) (sym (append-nil before)) moved; in_order = up }
read_all [] (p ∷ listed) before pairs i s moved up once = absurd s
read_all (item ∷ items) [] before pairs i s moved up once = absurd s
read_all (item ∷ items) (p ∷ listed) before pairs i s moved up once =
    let new = is_new p before pairs listed moved once in
    let along = append_assoc before (p ∷ []) listed in
    let more = put name_cmp p.0 p.1 pairs in
    let rest = read_all items listed (before ++ p ∷ []) more (i + 1) s.1 (moved_more before pairs p moved new) (put_in_order p.0 p.1 pairs up)
    (λ k. subst (λ l. count k l ≤ 1) (sym along) (once k)) in
    record {
      all = rest.all;
      read = ap (λ r. and_then (and_then r (with_property i pairs)) (λ more. read_from (i + 1) more items)) (property_read i item p s.0)
          ∙ ap (λ b. and_then (cond b (Err (Twice i)) (Ok more)) (λ more. read_from (i + 1) more items)) new
          ∙ rest.read;
      moved = subst (λ l. IsPermutation l rest.all) along rest.moved;
      in_order = rest.in_order;
    }

pub spelled_read : (items : List (List ℕ)) (pairs : List Property) → Spell items pairs → read_from 0 [] items ≡ Ok pairs
spelled_read items pairs s =
    let r = read_all items s.listed [] [] 0 s.spelled (IsPermutation-refl []) refl (permuted_once s.listed pairs s.rearranged s.in_order) in
    r.read ∙ ap Ok (same_in_order r.all pairs (IsPermutation-trans r.all s.listed pairs (IsPermutation-sym s.listed r.all r.moved) s.rearranged) r.in_order s.in_order)

read_append : (front rest : List (List ℕ)) (pairs : List Property) (i : ℕ)
    → read_from i pairs (front ++ rest) ≡ and_then (read_from i pairs front) (λ more. read_from (i + length front) more rest)
read_append [] rest pairs i = let same : i ≡ i + 0 = omega arith in ap (λ n. read_from n pairs rest) same
read_append (item ∷ front) rest pairs i =
    elim (and_then (property_said i item) (with_property i pairs)) as (λ r. and_then r (λ more. read_from (i + 1) more (front ++ rest))
    ≡ and_then (and_then r (λ more. read_from (i + 1) more front)) (λ more. read_from (i + suc (length front)) more rest)) [
      | Err f ↦ refl
      | Ok more ↦
          let same : (i + 1) + length front ≡ i + suc (length front) = omega arith in
          read_append front rest more (i + 1) ∙ ap (λ n. and_then (read_from (i + 1) more front) (λ more. read_from n more rest)) same
    ]

-- what is read up to an item
up_to : (front : List (List ℕ)) (item : List ℕ) (back : List (List ℕ)) (before : List Property) (i : ℕ) → Spell front before → length front ≡ i
    → read_from 0 [] (front ++ item ∷ back) ≡ and_then (and_then (property_said i item) (with_property i before)) (λ more. read_from (i + 1) more back)
up_to front item back before i s e =
    read_append front (item ∷ back) [] 0
    ∙ ap (λ r. and_then r (λ more. read_from (0 + length front) more (item ∷ back))) (spelled_read front before s)
    ∙ ap (λ n. read_from n before (item ∷ back)) (at_place (length front) i e)
  where
    at_place : (n i : ℕ) → n ≡ i → 0 + n ≡ i
    at_place n i e = omega (arith, e)

pair_of : (item : List ℕ) (p : Property) → SpellsProperty item p → IsPair item
pair_of item p s = (p.0, _, s.0.0, s.1)

bad_pair : (i : ℕ) (item : List ℕ) (r : Result Property PropsFault) → Said i item r → ¬ (IsPair item) → r ≡ Err (BadPair i)
bad_pair i item (Ok p) said none = absurd (none (pair_of item p said))
bad_pair i item (Err (BadPair j)) said none = ap (λ n. Err (BadPair n)) said.0
bad_pair i item (Err (BadBase64 j)) said none = absurd (none said.1)
bad_pair i item (Err (Twice j)) said none = absurd said
bad_pair i item (Err TooMany) said none = absurd said

bad_base64 : (i : ℕ) (item : List ℕ) (r : Result Property PropsFault) → Said i item r → IsNoBase64 [] item → r ≡ Err (BadBase64 i)
bad_base64 i item (Ok p) said f = absurd (f.1 (p, said))
bad_base64 i item (Err (BadPair j)) said f = absurd (said.1 f.0)
bad_base64 i item (Err (BadBase64 j)) said f = ap (λ n. Err (BadBase64 n)) said.0
bad_base64 i item (Err (Twice j)) said f = absurd said
bad_base64 i item (Err TooMany) said f = absurd said

middle_bytes : (front : List (List ℕ)) (item : List ℕ) (back : List (List ℕ)) → AllByRecursion IsByteText (front ++ item ∷ back) → IsByteText item
middle_bytes [] item back h = h.0
middle_bytes (t ∷ front) item back h = middle_bytes front item back h.1

faulty : (items : List (List ℕ)) (f : PropsFault) → AllByRecursion IsByteText items → IsItemsFault items f → read_from 0 [] items ≡ Err f
unfolding with_property
faulty items TooMany bytes h = absurd h
faulty items (BadPair i) bytes h =
    let item = middle_bytes h.front h.item h.back (subst (AllByRecursion IsByteText) h.parts bytes) in
    ap (read_from 0 []) h.parts ∙ up_to h.front h.item h.back h.before i h.spelled h.place
    ∙ ap (λ r. and_then (and_then r (with_property i h.before)) (λ more. read_from (i + 1) more h.back)) (bad_pair i h.item (property_said i h.item) (said_is i h.item item) h.fault)
faulty items (BadBase64 i) bytes h =
    let item = middle_bytes h.front h.item h.back (subst (AllByRecursion IsByteText) h.parts bytes) in
    ap (read_from 0 []) h.parts ∙ up_to h.front h.item h.back h.before i h.spelled h.place
    ∙ ap (λ r. and_then (and_then r (with_property i h.before)) (λ more. read_from (i + 1) more h.back)) (bad_base64 i h.item (property_said i h.item) (said_is i h.item item) h.fault)
faulty items (Twice i) bytes h =
    let p = h.fault.0 in
    ap (read_from 0 []) h.parts ∙ up_to h.front h.item h.back h.before i h.spelled h.place
    ∙ ap (λ r. and_then (and_then r (with_property i h.before)) (λ more. read_from (i + 1) more h.back)) (property_read i h.item p h.fault.1)
    ∙ ap (λ b. and_then (cond b (Err (Twice i)) (Ok (put name_cmp p.0 p.1 h.before))) (λ more. read_from (i + 1) more h.back)) (there_named p.0 h.before h.fault.2)

-- ---- the items of a text

onto_bytes : (b : ℕ) (ts : List (List ℕ)) → is_byte b ≡ true → AllByRecursion IsByteText ts → AllByRecursion IsByteText (onto_first b ts)
onto_bytes b [] e h = (both (is_byte b) true e refl, tt)
onto_bytes b (t ∷ ts) e h = (both (is_byte b) (list_all is_byte t) e h.0, h.1)

split_bytes : (text : List ℕ) → IsByteText text → AllByRecursion IsByteText (slice_split is_comma text)
split_bytes [] e = (refl, tt)
split_bytes (b ∷ text) e =
    let parts = both_are (is_byte b) (list_all is_byte text) e in
    let rest = split_bytes text parts.1 in
    elim (is_comma b) as (λ c. AllByRecursion IsByteText (cond c ([] ∷ slice_split is_comma text) (onto_first b (slice_split is_comma text)))) [
      | true ↦ (refl, rest)
      | false ↦ onto_bytes b (slice_split is_comma text) parts.0 rest
    ]

items_bytes : (text : List ℕ) → IsByteText text → AllByRecursion IsByteText (items_of text)
items_bytes text e =
    elim (length text == 0) as (λ b. AllByRecursion IsByteText (cond b [] (slice_split is_comma text))) [
      | true ↦ tt
      | false ↦ split_bytes text e
    ]

pub few_enough : (n : ℕ) → n ≤ 64 → nat_lt 64 n ≡ false
few_enough n h = grind (arith, nat_tests)

few_from : (n : ℕ) → nat_lt 64 n ≡ false → n ≤ 64
few_from n h = grind (arith, nat_tests)

many : (n : ℕ) → 64 < n → nat_lt 64 n ≡ true
many n h = grind (arith, nat_tests)

-- ---- a text

pub only_read : (text : List ℕ) (pairs : List Property) → IsPropertiesText text pairs → properties_of text ≡ Ok pairs
unfolding properties_of
only_read text pairs h =
    ap (λ b. cond b (Err TooMany) (read_from 0 [] (items_of text))) (few_enough (length (items_of text)) h.few) ∙ spelled_read (items_of text) pairs h.spelled

abbrev IsAnswer : List ℕ → Result (List Property) PropsFault → Type 0
IsAnswer text (Ok pairs) = IsPropertiesText text pairs
IsAnswer text (Err f) = IsTextFault text f

answer_from : (text : List ℕ) (r : Result (List Property) PropsFault) → length (items_of text) ≤ 64 → ReadIs (items_of text) r → IsAnswer text r
answer_from text (Ok pairs) few s = record { spelled = s; few = few }
answer_from text (Err TooMany) few h = absurd h
answer_from text (Err (BadPair i)) few h = (few, h)
answer_from text (Err (BadBase64 i)) few h = (few, h)
answer_from text (Err (Twice i)) few h = (few, h)

answer_is : (text : List ℕ) → IsByteText text → IsAnswer text (properties_of text)
unfolding properties_of
answer_is text bytes =
    elim (nat_lt 64 (length (items_of text))) as (λ b. nat_lt 64 (length (items_of text)) ≡ b → IsAnswer text (cond b (Err TooMany) (read_from 0 [] (items_of text)))) [
      | true ↦ λ over. ltb-true 64 (length (items_of text)) over
      | false ↦ λ within.
          answer_from text (read_from 0 [] (items_of text)) (few_from (length (items_of text)) within) (read_is (items_of text) [] [] 0 (items_bytes text bytes) none_spelled refl)
    ] refl

pub read_is_text : (text : List ℕ) (pairs : List Property) → IsByteText text → properties_of text ≡ Ok pairs → IsPropertiesText text pairs
read_is_text text pairs bytes e = subst (IsAnswer text) e (answer_is text bytes)

pub refused_is_fault : (text : List ℕ) (f : PropsFault) → IsByteText text → properties_of text ≡ Err f → IsTextFault text f
refused_is_fault text f bytes e = subst (IsAnswer text) e (answer_is text bytes)

within_text : (text : List ℕ) (f : PropsFault) → IsByteText text → length (items_of text) ≤ 64 → IsItemsFault (items_of text) f → properties_of text ≡ Err f
unfolding properties_of
within_text text f bytes few h =
    ap (λ b. cond b (Err TooMany) (read_from 0 [] (items_of text))) (few_enough (length (items_of text)) few) ∙ faulty (items_of text) f (items_bytes text bytes) h

pub fault_is_refused : (text : List ℕ) (f : PropsFault) → IsByteText text → IsTextFault text f → properties_of text ≡ Err f
unfolding properties_of
fault_is_refused text TooMany bytes h = ap (λ b. cond b (Err TooMany) (read_from 0 [] (items_of text))) (many (length (items_of text)) h)
fault_is_refused text (BadPair i) bytes h = within_text text (BadPair i) bytes h.0 h.1
fault_is_refused text (BadBase64 i) bytes h = within_text text (BadBase64 i) bytes h.0 h.1
fault_is_refused text (Twice i) bytes h = within_text text (Twice i) bytes h.0 h.1

-- ---- what is read keeps what holds of all properties

zip_properties : (items : List (List ℕ)) (listed : List Property) → AllZip SpellsProperty items listed → AllByRecursion IsProperty listed × (length items ≡ length listed)
zip_properties [] [] s = (tt, refl)
zip_properties [] (p ∷ listed) s = absurd s
zip_properties (t ∷ items) [] s = absurd s
zip_properties (t ∷ items) (p ∷ listed) s = let rest = zip_properties items listed s.1 in ((s.0.0, rest.0), ap suc rest.1)

text_properties : (text : List ℕ) (pairs : List Property) → IsPropertiesText text pairs → IsProperties pairs
text_properties text pairs h =
    let s = h.spelled in
    let zipped = zip_properties (items_of text) s.listed s.spelled in
    let long = length_permutation s.listed pairs s.rearranged in
    record {
      in_order = s.in_order;
      each = recursion_from_All IsProperty pairs (All-permutation IsProperty s.listed pairs s.rearranged (All-from_recursion IsProperty s.listed zipped.0));
      few = omega (arith, long, zipped.1, h.few);
    }

pub read_properties : (text : List ℕ) (pairs : List Property) → IsByteText text → nat_lt 64 (length (items_of text)) ≡ false → read_from 0 [] (items_of text) ≡ Ok pairs → IsProperties pairs
unfolding properties_of
read_properties text pairs bytes within e =
    text_properties text pairs (read_is_text text pairs bytes (ap (λ b. cond b (Err TooMany) (read_from 0 [] (items_of text))) within ∙ e))

-- ---- what a call answers

pub ok_is : {T : Type 0} (r : Result T PropsStop) (answer : Result T PropsFault) (P : T → Type 0) → Answers r answer → ((x : T) → answer ≡ Ok x → P x) → IfOk r P
ok_is (Ok x) answer P h f = f x h
ok_is (Err e) answer P h f = tt

pub answers_along : {T : Type 0} (r : Result T PropsStop) (answer other : Result T PropsFault) → Answers r answer → answer ≡ other → Answers r other
answers_along r answer other h e = subst (Answers r) e h

pub fault_is : {T : Type 0} (r : Result T PropsStop) (answer : Result T PropsFault) (f : PropsFault) → Answers r answer → r ≡ Err (stop.Fault f) → answer ≡ Err f
fault_is r answer f h e = subst (λ r. Answers r answer) e h
