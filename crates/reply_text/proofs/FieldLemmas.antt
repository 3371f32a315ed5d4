-- The places of the number, field by field.
use Rattle.std.proofs.Common.{◌≡◌, ℕ, ◌+◌, ◌<◌, ◌≤◌, Bool, true, false, List, ◌++◌, take, drop, length, get_or, codes, Option, Some, None, refl, sym, ap, ◌∙◌, arith, cond, append_assoc, append-nil, length-append}
use Rattle.std.specs.Prelude.{count_by}
use Rattle.std.proofs.lemmas.List.{take_more, take-append-drop, flat_map_more}
use Rattle.std.proofs.lemmas.List.Sums.{sum_by-append, count_by_more_yes, count_by_more_no}
use Rattle.head_text.specs.Hex.{hex16}
use Rattle.namespace_model.specs.declared.field.Field.{Field}
use Rattle.namespace_model.specs.declared.field.Field.TheVariants.{Close, ETag, LastModified, AcceptRanges, ContentRange, ContentType, ResourceType, Owner, Group, Permissions, Acl, Properties, LeaseState, LeaseStatus, LeaseDuration, LeaseId, LeaseTime, NamespaceEnabled, Continuation, ContentLength}
use Rattle.head_text.specs.TagTexts.{etag_text}
use Rattle.reply_text.specs.declared.slots.Slots.{Slots}
use Rattle.reply_text.specs.Lines.{line_end, line, field_line, field_lines, status_line, moment_text}
use Rattle.reply_text.specs.ReplyText.{is_open, start_lines}
use Rattle.reply_text.specs.Slots.{Spells, slots_with}
use Rattle.reply_text.proofs.SlotLemmas.{spells_more, spells_first, spells_second}

-- the same places, bytes and texts in other words
spells_as : (id id' : ℕ) (place : Option ℕ) (bytes bytes' : List ℕ) (text text' : ℕ → List ℕ) → id ≡ id' → bytes ≡ bytes' → ((n : ℕ) → text n ≡ text' n)
    → Spells (record { id = id; etag = place }) bytes text → Spells (record { id = id'; etag = place }) bytes' text'
spells_as id id' place bytes bytes' text text' ids same texts spells =
    rw (← ids, ← same) (record { fits = spells.fits; text_is = λ n. spells.text_is n ∙ texts n })

number_line : (name : List ℕ) (n : ℕ) → line name (hex16 n) ≡ (name ++ codes ": ") ++ (hex16 n ++ line_end)
unfolding line
number_line name n = simp append_assoc

-- what stands before the number at the start of a reply
abbrev before_id : ℕ → ℕ → List ℕ
before_id status moment = status_line status ++ line (codes "Date") (moment_text moment) ++ (codes "x-ms-request-id" ++ codes ": ")

abbrev behind_id : List ℕ
behind_id = line_end ++ line (codes "x-ms-version") (codes "2020-08-04")

start_parts : (status moment n : ℕ) → before_id status moment ++ (hex16 n ++ behind_id) ≡ start_lines status moment n
unfolding start_lines
start_parts status moment n = rw number_line (simp append_assoc)

-- the start of a reply has its number behind the date line, whatever stands before it
pub spells_start : (front : List ℕ) (status moment id : ℕ) → id ≡ length (front ++ (status_line status ++ line (codes "Date") (moment_text moment))) + 17
    → Spells (record { id = id; etag = None }) (front ++ start_lines status moment 0) (λ n. front ++ start_lines status moment n)
spells_start front status moment id place =
    let lines : List ℕ = status_line status ++ line (codes "Date") (moment_text moment) in
    let name : List ℕ = codes "x-ms-request-id" ++ codes ": " in
    spells_as (length (front ++ before_id status moment)) id None
    ((front ++ before_id status moment) ++ (hex16 0 ++ behind_id)) (front ++ start_lines status moment 0)
    (λ n. (front ++ before_id status moment) ++ hex16 n ++ behind_id) (λ n. front ++ start_lines status moment n)
    (ap length (sym (append_assoc front lines name)) ∙ length-append (front ++ lines) name ∙ sym place)
    (append_assoc front (before_id status moment) (hex16 0 ++ behind_id) ∙ ap (λ t. front ++ t) (start_parts status moment 0))
    (λ n. append_assoc (front ++ before_id status moment) (hex16 n) behind_id ∙ append_assoc front (before_id status moment) (hex16 n ++ behind_id)
    ∙ ap (λ t. front ++ t) (start_parts status moment n))
    (spells_first (front ++ before_id status moment) behind_id)

-- what stands before the number in an ETag line, and behind it
abbrev before_tag : List ℕ
before_tag = codes "ETag: \"0x"

abbrev behind_tag : List ℕ
behind_tag = codes "\"" ++ line_end

tag_parts : (n : ℕ) → before_tag ++ (hex16 n ++ behind_tag) ≡ field_line n (ETag None)
unfolding field_line line etag_text
tag_parts n = ap (λ t. before_tag ++ t) (sym (append_assoc (hex16 n) (codes "\"") line_end))

tag_parts_too : (n : ℕ) → before_tag ++ hex16 n ++ behind_tag ≡ field_line n (ETag None)
tag_parts_too n = append_assoc before_tag (hex16 n) behind_tag ∙ tag_parts n

-- an open ETag has its number nine bytes behind the beginning of its line
spells_open : (id : ℕ) (bytes : List ℕ) (text : ℕ → List ℕ) → Spells (record { id = id; etag = None }) bytes text
    → Spells (record { id = id; etag = Some (length bytes + 9) }) (bytes ++ field_line 0 (ETag None)) (λ n. text n ++ field_line n (ETag None))
spells_open id bytes text spells =
    spells_as id id (Some (length bytes + 9))
    (bytes ++ (before_tag ++ (hex16 0 ++ behind_tag))) (bytes ++ field_line 0 (ETag None))
    (λ n. text n ++ (before_tag ++ hex16 n ++ behind_tag)) (λ n. text n ++ field_line n (ETag None))
    refl (ap (λ t. bytes ++ t) (tag_parts 0)) (λ n. ap (λ t. text n ++ t) (tag_parts_too n))
    (spells_second id bytes before_tag behind_tag text spells)

-- a field's line is spelled where its number, if it is open, is the first open one
spells_field : (id : ℕ) (place : Option ℕ) (bytes : List ℕ) (text : ℕ → List ℕ) (f : Field) → (is_open f ≡ true → place ≡ None)
    → Spells (record { id = id; etag = place }) bytes text
    → Spells (slots_with (record { id = id; etag = place }) (length bytes) f) (bytes ++ field_line 0 f) (λ n. text n ++ field_line n f)
unfolding field_line
spells_field id None bytes text (ETag None) free spells = spells_open id bytes text spells
spells_field id (Some at) bytes text (ETag None) free spells = absurd (let taken : Some at ≡ None = free refl in cc)
spells_field id place bytes text (ETag (Some number)) free spells = spells_more (record { id = id; etag = place }) bytes (field_line 0 (ETag (Some number))) text spells
spells_field id place bytes text Close free spells = spells_more (record { id = id; etag = place }) bytes (field_line 0 Close) text spells
spells_field id place bytes text (LastModified moment) free spells = spells_more (record { id = id; etag = place }) bytes (field_line 0 (LastModified moment)) text spells
spells_field id place bytes text AcceptRanges free spells = spells_more (record { id = id; etag = place }) bytes (field_line 0 AcceptRanges) text spells
spells_field id place bytes text (ContentRange from to len) free spells = spells_more (record { id = id; etag = place }) bytes (field_line 0 (ContentRange from to len)) text spells
spells_field id place bytes text (ContentType media) free spells = spells_more (record { id = id; etag = place }) bytes (field_line 0 (ContentType media)) text spells
spells_field id place bytes text (ResourceType kind) free spells = spells_more (record { id = id; etag = place }) bytes (field_line 0 (ResourceType kind)) text spells
spells_field id place bytes text (Owner who) free spells = spells_more (record { id = id; etag = place }) bytes (field_line 0 (Owner who)) text spells
spells_field id place bytes text (Group who) free spells = spells_more (record { id = id; etag = place }) bytes (field_line 0 (Group who)) text spells
spells_field id place bytes text (Permissions letters) free spells = spells_more (record { id = id; etag = place }) bytes (field_line 0 (Permissions letters)) text spells
spells_field id place bytes text (Acl entries) free spells = spells_more (record { id = id; etag = place }) bytes (field_line 0 (Acl entries)) text spells
spells_field id place bytes text (Properties props) free spells = spells_more (record { id = id; etag = place }) bytes (field_line 0 (Properties props)) text spells
spells_field id place bytes text (LeaseState held) free spells = spells_more (record { id = id; etag = place }) bytes (field_line 0 (LeaseState held)) text spells
spells_field id place bytes text (LeaseStatus locked) free spells = spells_more (record { id = id; etag = place }) bytes (field_line 0 (LeaseStatus locked)) text spells
spells_field id place bytes text (LeaseDuration infinite) free spells = spells_more (record { id = id; etag = place }) bytes (field_line 0 (LeaseDuration infinite)) text spells
spells_field id place bytes text (LeaseId lease) free spells = spells_more (record { id = id; etag = place }) bytes (field_line 0 (LeaseId lease)) text spells
spells_field id place bytes text (LeaseTime seconds) free spells = spells_more (record { id = id; etag = place }) bytes (field_line 0 (LeaseTime seconds)) text spells
spells_field id place bytes text NamespaceEnabled free spells = spells_more (record { id = id; etag = place }) bytes (field_line 0 NamespaceEnabled) text spells
spells_field id place bytes text (Continuation token) free spells = spells_more (record { id = id; etag = place }) bytes (field_line 0 (Continuation token)) text spells
spells_field id place bytes text (ContentLength len) free spells = spells_more (record { id = id; etag = place }) bytes (field_line 0 (ContentLength len)) text spells

-- a field that isn't open leaves the places as they are
kept_places : (slots : Slots) (at : ℕ) (f : Field) → is_open f ≡ false → slots_with slots at f ≡ slots
kept_places slots at (ETag None) closed = absurd (cc)
kept_places slots at (ETag (Some number)) closed = refl
kept_places slots at Close closed = refl
kept_places slots at (LastModified moment) closed = refl
kept_places slots at AcceptRanges closed = refl
kept_places slots at (ContentRange from to len) closed = refl
kept_places slots at (ContentType media) closed = refl
kept_places slots at (ResourceType kind) closed = refl
kept_places slots at (Owner who) closed = refl
kept_places slots at (Group who) closed = refl
kept_places slots at (Permissions letters) closed = refl
kept_places slots at (Acl entries) closed = refl
kept_places slots at (Properties props) closed = refl
kept_places slots at (LeaseState held) closed = refl
kept_places slots at (LeaseStatus locked) closed = refl
kept_places slots at (LeaseDuration infinite) closed = refl
kept_places slots at (LeaseId lease) closed = refl
kept_places slots at (LeaseTime seconds) closed = refl
kept_places slots at NamespaceEnabled closed = refl
kept_places slots at (Continuation token) closed = refl
kept_places slots at (ContentLength len) closed = refl

count_take : (fields : List Field) (i : ℕ) → count_by is_open (take i fields) ≤ count_by is_open fields
count_take fields i =
    let parts = sum_by-append (λ f. cond (is_open f) 1 0) (take i fields) (drop i fields) in
    let whole = rw (take-append-drop i fields) at parts in
    omega (arith, whole)

-- the first fields are spelled, with the number at these places
pub record SpellsFirst (start : ℕ → List ℕ) (fields : List Field) (i : ℕ) (slots : Slots) (bytes : List ℕ) : Type 0 where
  pub zeros : bytes ≡ start 0 ++ field_lines 0 (take i fields)
  pub spelled : Spells slots bytes (λ n. start n ++ field_lines n (take i fields))
  pub free : count_by is_open (take i fields) ≡ 0 → slots.etag ≡ None

-- an open field is the first open one
place_is_free : (fields : List Field) (i : ℕ) (f : Field) (slots : Slots) → i < length fields → f ≡ get_or fields i f → count_by is_open fields ≤ 1
    → (count_by is_open (take i fields) ≡ 0 → slots.etag ≡ None) → is_open f ≡ true → slots.etag ≡ None
place_is_free fields i f slots inside here few free opened =
    let there : is_open (get_or fields i f) ≡ true = rw (← here) opened in
    let one = count_by_more_yes is_open fields i f inside there in
    let most = count_take fields (i + 1) in
    free (omega (arith, one, most))

-- while no field is open, no place is taken
stays_free : (fields : List Field) (i : ℕ) (f : Field) (slots : Slots) (at : ℕ) (b : Bool) → is_open f ≡ b → i < length fields → f ≡ get_or fields i f
    → (count_by is_open (take i fields) ≡ 0 → slots.etag ≡ None) → count_by is_open (take (i + 1) fields) ≡ 0 → (slots_with slots at f).etag ≡ None
stays_free fields i f slots at true opened inside here free none =
    let there : is_open (get_or fields i f) ≡ true = rw (← here) opened in
    let one = count_by_more_yes is_open fields i f inside there in
    absurd (omega (arith, one, none))
stays_free fields i f slots at false closed inside here free none =
    let there : is_open (get_or fields i f) ≡ false = rw (← here) closed in
    let same = count_by_more_no is_open fields i f inside there in
    rw (kept_places slots at f closed) (free (sym same ∙ none))

-- before the first field
pub spells_none : (start : ℕ → List ℕ) (fields : List Field) (slots : Slots) (bytes : List ℕ)
    → bytes ≡ start 0 → Spells slots bytes start → slots.etag ≡ None → SpellsFirst start fields 0 slots bytes
spells_none start fields slots bytes zeros spelled free = record {
  zeros = zeros ∙ sym (append-nil (start 0));
  spelled = record { fits = spelled.fits; text_is = λ n. spelled.text_is n ∙ sym (append-nil (start n)) };
  free = λ none. free;
}

pub spells_next : (start : ℕ → List ℕ) (fields : List Field) (i : ℕ) (f : Field) (slots slots' : Slots) (bytes bytes' : List ℕ)
    → i < length fields → f ≡ get_or fields i f → count_by is_open fields ≤ 1
    → SpellsFirst start fields i slots bytes → slots' ≡ slots_with slots (length bytes) f → bytes' ≡ bytes ++ field_line 0 f
    → SpellsFirst start fields (i + 1) slots' bytes'
spells_next start fields i f slots slots' bytes bytes' inside here few before places more =
    let one_more : (n : ℕ) → (start n ++ field_lines n (take i fields)) ++ field_line n f ≡ start n ++ field_lines n (take (i + 1) fields) =
    λ n. rw (take_more fields i f inside, ← here) (flat_map_more (field_line n) (start n) (take i fields) f) in
    let with = spells_field slots.id slots.etag bytes (λ n. start n ++ field_lines n (take i fields)) f
    (place_is_free fields i f slots inside here few before.free) before.spelled in
    record {
      zeros = more ∙ ap (λ t. t ++ field_line 0 f) before.zeros ∙ one_more 0;
      spelled = rw (places, more) (record { fits = with.fits; text_is = λ n. with.text_is n ∙ one_more n });
      free = λ none. rw places (stays_free fields i f slots (length bytes) (is_open f) refl inside here before.free none);
    }

-- the last lines and the body stand behind bytes that have the number
pub spells_whole : (slots : Slots) (front bytes bytes' after back : List ℕ) (start fields : ℕ → List ℕ) → Spells slots bytes (λ n. (front ++ start n) ++ fields n)
    → bytes' ≡ (bytes ++ after) ++ back → Spells slots bytes' (λ n. front ++ (((start n ++ fields n) ++ after) ++ back))
spells_whole slots front bytes bytes' after back start fields spells same =
    let more = spells_more slots bytes after (λ n. (front ++ start n) ++ fields n) spells in
    let all = spells_more slots (bytes ++ after) back (λ n. ((front ++ start n) ++ fields n) ++ after) more in
    let parts : (n : ℕ) → (((front ++ start n) ++ fields n) ++ after) ++ back ≡ front ++ (((start n ++ fields n) ++ after) ++ back) = λ n. simp append_assoc in
    rw same (record { fits = all.fits; text_is = λ n. all.text_is n ∙ parts n })
