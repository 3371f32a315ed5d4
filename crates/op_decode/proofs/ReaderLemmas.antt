-- What holds of each value that is read.
use Rattle.std.proofs.Common.{◌≡◌, ◌≢◌, ℕ, ◌+◌, ◌≤◌, ◌<◌, ◌^◌, Bool, true, false, cond, List, [], ◌∷◌, ◌++◌, length, take, Option, Some, None, Result, Ok, Err, lit≤, refl, sym, ap, subst, ◌∙◌, arith, rules}
use Rattle.std.specs.Prelude.{⊤, ◌⊎◌, ◌==◌, ◌&&◌, ◌||◌, nat_le, bytes_eq, codes, is_some, IfSome, IsSome, IsOk, slice_get, option_and_then}
use Rattle.std.specs.Result.{result_ok}
use Rattle.std.specs.Char.{is_ascii_digit}
use Rattle.std.specs.List.{list_all}
use Rattle.std.specs.Str.Parse.{digits_value}
use Rattle.std.proofs.lemmas.Bool.Decides.{nat_tests}
use Rattle.std.proofs.lemmas.Slice.Eq.{bytes_eq-Decides}
use Rattle.std.proofs.lemmas.Str.Parse.{IsNumeralModel, numerals_by_value, digits_value_short}
use Rattle.acl_text.specs.AclChanges.{acl_set}
use Rattle.acl_text.specs.AclTexts.{acl_list_of, remove_list_of}
use Rattle.acl_text.specs.Ids.{id_of}
use Rattle.acl_text.specs.PermTexts.{permissions_of, umask_of}
use Rattle.acl_text.specs.declared.scope.Scope.{Scope}
use Rattle.acl_text.specs.declared.who.Who.{Who}
use Rattle.acl_text.specs.declared.perm.ModeBits.{ModeBits}
use Rattle.acl_text.proofs.ModeLemmas.{umask_is}
use Rattle.acl_text.proofs.TextLemmas.{acl_text_is, remove_text_is}
use Rattle.base64.specs.Engines.{standard}
use Rattle.base64.specs.GeneralPurpose.{decoded_of}
use Rattle.head_text.specs.Decimal.{decimal_value, is_decimal}
use Rattle.head_text.specs.Properties.{Property}
use Rattle.head_text.specs.PropertyTexts.{properties_of}
use Rattle.http_front.specs.declared.raw.Raw.{Raw}
use Rattle.lease_state.specs.LeaseId.{lease_id_of}
use Rattle.path_text.specs.Queries.{first_value}
use Rattle.path_text.specs.Texts.{KeepsLimits, plain_path}
use Rattle.path_text.specs.Tokens.{full_text, is_on_page, path_if_said, path_said, token_bytes, token_path}
use Rattle.path_text.specs.declared.fault.TargetStop.{TargetStop}
use Rattle.path_text.proofs.GrammarLemmas.{path_is_spelled}
use Rattle.namespace_model.specs.Sound.{AreEntries, AreItems, CanBeSet, IsLeaseDuration, IsPosition, IsSize, IsUmask, is_of_decoding}
use Rattle.namespace_model.specs.declared.code.Code.{Code}
use Rattle.namespace_model.specs.declared.code.Code.TheVariants as code
use Rattle.op_decode.specs.AclTexts.{entries_of, or_bad_acl, whole_entries_of}
use Rattle.op_decode.specs.HeaderValues.{id_in, lease_id_in, needed_lease_id_in, needed_props_in, or_bad_header, permissions_in, props_in, props_of, source_lease_id_in, umask_in}
use Rattle.op_decode.specs.Headers.{has_header, header}
use Rattle.op_decode.specs.Leases.{duration_in, duration_of, period_in, seconds_of, seconds_within}
use Rattle.op_decode.specs.Orders.{after, if_given, needed, or_refused}
use Rattle.op_decode.specs.Parameters.{flag_in, flag_of, number_of, position_in, size_in, size_of, size_within, token_in, token_of}

-- the code of a refusal is one that decoding gives
abbrev pub IsCode : Code → Type 0
IsCode code = is_of_decoding code ≡ true

abbrev pub IsRight : {X : Type 0} → Result X Code → (X → Type 0) → Type 0
IsRight (Err code) P = IsCode code
IsRight (Ok x) P = P x

abbrev pub Any : {X : Type 0} → X → Type 0
Any x = ⊤

pub chosen : {X : Type 0} (P : X → Type 0) (b : Bool) (x y : X) → (b ≡ true → P x) → P y → P (cond b x y)
chosen P true x y h k = h refl
chosen P false x y h k = k

pub right_after : {A B : Type 0} (P : A → Type 0) (Q : B → Type 0) (r : Result A Code) (f : A → Result B Code) → IsRight r P
    → ((a : A) → P a → IsRight (f a) Q) → IsRight (after r f) Q
right_after P Q (Ok a) f h k = k a h
right_after P Q (Err code) f h k = h

right_or_refused : {A : Type 0} (P : A → Type 0) (code : Code) (o : Option A) → IsCode code → ((a : A) → o ≡ Some a → P a) → IsRight (or_refused code o) P
right_or_refused P code None h k = h
right_or_refused P code (Some a) h k = k a refl

right_value : {A Fault : Type 0} (P : A → Type 0) (r : Result A Fault) → ((a : A) → r ≡ Ok a → P a) → IsRight (or_bad_header r) P
right_value P (Ok a) k = k a refl
right_value P (Err fault) k = refl

pub right_acl : {A Fault : Type 0} (P : A → Type 0) (r : Result A Fault) → ((a : A) → r ≡ Ok a → P a) → IsRight (or_bad_acl r) P
right_acl P (Ok a) k = k a refl
right_acl P (Err fault) k = refl

-- a value that is there exactly where its text is
abbrev pub IsGiven : {A : Type 0} → (A → Type 0) → Option (List ℕ) → Option A → Type 0
IsGiven P text value = IfSome value P × (is_some value ≡ is_some text)

pub right_if_given : {A : Type 0} (P : A → Type 0) (read : List ℕ → Result A Code) → ((text : List ℕ) → IsRight (read text) P) → (o : Option (List ℕ))
    → IsRight (if_given read o) (IsGiven P o)
right_if_given P read h None = (tt, refl)
right_if_given P read h (Some text) = right_after P (IsGiven P (Some text)) (read text) (λ value. Ok (Some value)) (h text) (λ a p. (p, refl))

pub right_needed : {A : Type 0} (P : A → Type 0) (missing : Code) (read : List ℕ → Result A Code) (o : Option (List ℕ)) → IsCode missing
    → ((text : List ℕ) → IsRight (read text) P) → IsRight (needed missing read o) P
right_needed P missing read None h k = h
right_needed P missing read (Some text) h k = k text

-- ---- headers

pub right_permissions : (raw : Raw) → IsRight (permissions_in raw) (IsGiven Any (header (codes "x-ms-permissions") raw))
unfolding permissions_in
right_permissions raw =
    right_if_given Any (λ text. or_bad_header (permissions_of text)) (λ text. right_value Any (permissions_of text) (λ _ _. tt)) (header (codes "x-ms-permissions") raw)

pub right_umask : (raw : Raw) → IsRight (umask_in raw) (IsGiven IsUmask (header (codes "x-ms-umask") raw))
unfolding umask_in
right_umask raw =
    right_if_given IsUmask (λ text. or_bad_header (umask_of text)) (λ text. right_value IsUmask (umask_of text) (λ bits e. (umask_is text bits e).1))
    (header (codes "x-ms-umask") raw)

right_props_of : (text : List ℕ) → IsRight (props_of text) Any
unfolding props_of
right_props_of text = right_value Any (properties_of text) (λ _ _. tt)

pub right_props : (raw : Raw) → IsRight (props_in raw) (IsGiven Any (header (codes "x-ms-properties") raw))
unfolding props_in
right_props raw = right_if_given Any props_of right_props_of (header (codes "x-ms-properties") raw)

pub right_needed_props : (raw : Raw) → IsRight (needed_props_in raw) Any
unfolding needed_props_in
right_needed_props raw = right_needed Any code.MissingRequiredHeader props_of (header (codes "x-ms-properties") raw) refl right_props_of

pub right_id : (name : List ℕ) (raw : Raw) → IsRight (id_in name raw) (IsGiven Any (header name raw))
unfolding id_in
right_id name raw =
    right_if_given Any (λ text. or_refused code.InvalidHeaderValue (id_of text))
    (λ text. right_or_refused Any code.InvalidHeaderValue (id_of text) refl (λ _ _. tt)) (header name raw)

-- ---- lease ids

abbrev lease_id_read : List ℕ → Result ℕ Code
lease_id_read text = or_refused code.InvalidHeaderValue (lease_id_of text)

right_lease_id_read : (text : List ℕ) → IsRight (lease_id_read text) Any
right_lease_id_read text = right_or_refused Any code.InvalidHeaderValue (lease_id_of text) refl (λ _ _. tt)

pub right_lease_id : (name : List ℕ) (raw : Raw) → IsRight (lease_id_in name raw) Any
unfolding lease_id_in
right_lease_id name raw =
    by (if_given lease_id_read (header name raw)) (right_if_given Any lease_id_read right_lease_id_read (header name raw))
  where
    by : (r : Result (Option ℕ) Code) → IsRight r (IsGiven Any (header name raw)) → IsRight r Any
    by (Ok id) h = tt
    by (Err code) h = h

pub right_source_lease_id : (raw : Raw) → IsRight (source_lease_id_in raw) Any
unfolding source_lease_id_in
right_source_lease_id raw = right_lease_id (codes "x-ms-source-lease-id") raw

read_is_given : (read : List ℕ → Result ℕ Code) (text : List ℕ) (r : Result ℕ Code) → read text ≡ r → IsRight r Any
    → IsRight r (λ id. if_given read (Some text) ≡ Ok (Some id))
read_is_given read text (Ok id) e h = ap (λ (r : Result ℕ Code). after r (λ value. Ok (Some value))) e
read_is_given read text (Err code) e h = h

needed_is_given : (read : List ℕ → Result ℕ Code) (o : Option (List ℕ)) → ((text : List ℕ) → IsRight (read text) Any)
    → IsRight (needed code.MissingRequiredHeader read o) (λ id. if_given read o ≡ Ok (Some id))
needed_is_given read None h = refl
needed_is_given read (Some text) h = read_is_given read text (read text) refl (h text)

-- a lease id that has to be there is the one that the request gives
pub right_needed_lease_id : (name : List ℕ) (raw : Raw) → IsRight (needed_lease_id_in name raw) (λ id. lease_id_in name raw ≡ Ok (Some id))
unfolding needed_lease_id_in lease_id_in
right_needed_lease_id name raw = needed_is_given lease_id_read (header name raw) right_lease_id_read

-- ---- numbers

pub both : (a b : Bool) → (a && b) ≡ true → (a ≡ true) × (b ≡ true)
both true b e = (refl, e)
both false b e = absurd (cc)

pub at_least : (m n : ℕ) → nat_le m n ≡ true → m ≤ n
at_least m n e = grind (arith, nat_tests)

pub exactly : (m n : ℕ) → (m == n) ≡ true → m ≡ n
exactly m n e = grind (arith, nat_tests)

own : IsNumeralModel (λ ds. list_all is_ascii_digit ds ≡ true) (digits_value 10)
own = numerals_by_value _ (search rules)

decimal_small : (text : List ℕ) (n : ℕ) → decimal_value text ≡ Some n → IsPosition n
decimal_small text n e =
    elim (is_decimal text) as (λ b. is_decimal text ≡ b → cond b (Some (digits_value 10 text)) None ≡ Some n → n ≤ 9999999999999999999) [
      | true ↦ λ decimal is. small decimal (let same : digits_value 10 text ≡ n = cc in same)
      | false ↦ λ _ is. absurd (cc)
    ] refl e
  where
    small : is_decimal text ≡ true → digits_value 10 text ≡ n → n ≤ 9999999999999999999
    small decimal is =
        let cut = both (nat_le 1 (length text) && nat_le (length text) 19) (list_all is_ascii_digit text) decimal in
        let sizes = both (nat_le 1 (length text)) (nat_le (length text) 19) cut.0 in
        let below = digits_value_short own text 19 cut.1 (at_least (length text) 19 sizes.1) in
        omega (arith, below, is)

right_number : (text : List ℕ) → IsRight (number_of text) IsPosition
right_number text = right_or_refused IsPosition code.InvalidQueryParameterValue (decimal_value text) refl (λ n e. decimal_small text n e)

pub right_position : (query : List (List ℕ × List ℕ)) → IsRight (position_in query) IsPosition
unfolding position_in
right_position query =
    right_needed IsPosition code.MissingRequiredQueryParameter number_of (first_value query (codes "position")) refl right_number

right_flag_of : (text : Option (List ℕ)) → IsRight (flag_of text) Any
unfolding flag_of
right_flag_of None = tt
right_flag_of (Some text) =
    chosen (λ (r : Result Bool Code). IsRight r Any) (bytes_eq text (codes "true")) (Ok true) _ (λ _. tt)
    (chosen (λ (r : Result Bool Code). IsRight r Any) (bytes_eq text (codes "false")) (Ok false) (Err code.InvalidQueryParameterValue) (λ _. tt) refl)

pub right_flag : (name : List ℕ) (query : List (List ℕ × List ℕ)) → IsRight (flag_in name query) Any
unfolding flag_in
right_flag name query = right_flag_of (first_value query name)

right_within : (most size : ℕ) → 1 ≤ most → IsRight (size_within most size) (IsSize most)
right_within most size some =
    elim (size == 0) as (λ b. (size == 0) ≡ b
    → IsRight (cond b (Err code.OutOfRangeQueryParameterValue) (cond (nat_le size most) (Ok size) (Ok most))) (IsSize most)) [
      | true ↦ λ _. refl
      | false ↦ λ zero. chosen (λ (r : Result ℕ Code). IsRight r (IsSize most)) (nat_le size most) (Ok size) (Ok most)
          (λ e. record { some = grind (arith, nat_tests); within = at_least size most e })
          (record { some = some; within = omega arith })
    ] refl

right_size_of : (most : ℕ) (text : Option (List ℕ)) → 1 ≤ most → IsRight (size_of most text) (IsSize most)
right_size_of most None some = record { some = some; within = omega arith }
right_size_of most (Some text) some =
    right_after IsPosition (IsSize most) (number_of text) (size_within most) (right_number text) (λ size _. right_within most size some)

pub right_size : (name : List ℕ) (most : ℕ) (query : List (List ℕ × List ℕ)) → 1 ≤ most → IsRight (size_in name most query) (IsSize most)
unfolding size_in
right_size name most query some = right_size_of most (first_value query name) some

-- ---- seconds

-- seconds from the least to the greatest number
pub record AreWithin (least most secs : ℕ) : Type 0 where
  pub long : least ≤ secs
  pub short : secs ≤ most

right_seconds_within : (least most : ℕ) (o : Option ℕ) → IsRight (seconds_within least most o) (AreWithin least most)
right_seconds_within least most None = refl
right_seconds_within least most (Some secs) =
    chosen (λ (r : Result ℕ Code). IsRight r (AreWithin least most)) (nat_le least secs && nat_le secs most) (Ok secs) (Err code.InvalidHeaderValue)
    (λ e. let tests = both (nat_le least secs) (nat_le secs most) e in record { long = at_least least secs tests.0; short = at_least secs most tests.1 })
    refl

abbrev pub IsDuration : Option ℕ → Type 0
IsDuration secs = IfSome secs IsLeaseDuration

right_duration_of : (text : List ℕ) → IsRight (duration_of text) IsDuration
unfolding duration_of
right_duration_of text =
    chosen (λ (r : Result (Option ℕ) Code). IsRight r IsDuration) (bytes_eq text (codes "-1")) (Ok None) (after (seconds_of 15 60 text) (λ secs. Ok (Some secs)))
    (λ _. tt)
    (right_after (AreWithin 15 60) IsDuration (seconds_of 15 60 text) (λ secs. Ok (Some secs)) (right_seconds_within 15 60 (decimal_value text))
    (λ secs h. record { long = h.long; short = h.short }))

pub right_duration : (raw : Raw) → IsRight (duration_in raw) IsDuration
unfolding duration_in
right_duration raw = right_needed IsDuration code.MissingRequiredHeader duration_of (header (codes "x-ms-lease-duration") raw) refl right_duration_of

pub right_period : (raw : Raw) → IsRight (period_in raw) (IsGiven (AreWithin 0 60) (header (codes "x-ms-lease-break-period") raw))
unfolding period_in
right_period raw =
    right_if_given (AreWithin 0 60) (seconds_of 0 60) (λ text. right_seconds_within 0 60 (decimal_value text)) (header (codes "x-ms-lease-break-period") raw)

-- ---- lists

pub right_entries : (text : List ℕ) → IsRight (entries_of text) AreEntries
unfolding entries_of
right_entries text =
    right_acl AreEntries (acl_list_of text) (λ list e. let is = acl_text_is text list e in record { few = is.few; once = is.once })

pub right_items : (text : List ℕ) → IsRight (or_bad_acl (remove_list_of text)) AreItems
right_items text =
    right_acl AreItems (remove_list_of text) (λ list e. let is = remove_text_is text list e in record { few = is.few; once = is.once })

is_ok_at : {A E : Type 0} (r : Result A E) (a : A) → r ≡ Ok a → IsOk r
is_ok_at (Ok b) a e = refl
is_ok_at (Err x) a e = absurd (cc)

pub right_whole_entries : (text : List ℕ) → IsRight (whole_entries_of text) CanBeSet
unfolding whole_entries_of
right_whole_entries text =
    right_after AreEntries CanBeSet (entries_of text) (λ list. after (or_bad_acl (acl_set list)) (λ lists. Ok list)) (right_entries text)
    (λ list entries. right_after (λ _. IsOk (acl_set list)) CanBeSet (or_bad_acl (acl_set list)) (λ lists. Ok list)
    (right_acl (λ _. IsOk (acl_set list)) (acl_set list) (λ pair e. is_ok_at (acl_set list) pair e))
    (λ _ complete. record { entries = entries; complete = complete }))

-- ---- tokens

-- the path of a token on a page
pub record IsOnPage (fs : Option (List ℕ)) (path : List (List ℕ)) : Type 0 where
  pub limits : KeepsLimits path
  pub page : is_on_page fs path ≡ true

then_some : {A B : Type 0} (f : A → Option B) (o : Option A) (y : B) → option_and_then f o ≡ Some y → (x : A) × (o ≡ Some x) × (f x ≡ Some y)
then_some f None y e = absurd (cc)
then_some f (Some x) y e = (x, refl, e)

was_ok : {A E : Type 0} (r : Result A E) (x : A) → result_ok r ≡ Some x → r ≡ Ok x
was_ok (Ok y) x e = ap Ok (let same : y ≡ x = cc in same)
was_ok (Err d) x e = absurd (cc)

kept : (t : Bool) (q p : List (List ℕ)) → cond t (Some q) None ≡ Some p → (t ≡ true) × (q ≡ p)
kept true q p e = (refl, cc)
kept false q p e = absurd (cc)

token_on_page : (fs : Option (List ℕ)) (text : List ℕ) (path : List (List ℕ)) → token_path fs text ≡ Some path → IsOnPage fs path
unfolding token_path path_said path_if_said
token_on_page fs text path e =
    let bytes = then_some (path_said fs) (decoded_of standard text) path e in
    let read = then_some (path_if_said fs bytes.0) (result_ok (plain_path (full_text fs bytes.0))) path bytes.2 in
    let same = kept (is_on_page fs read.0 && bytes_eq (token_bytes fs read.0) bytes.0) read.0 path read.2 in
    let tests = both (is_on_page fs read.0) (bytes_eq (token_bytes fs read.0) bytes.0) same.0 in
    let spelled = path_is_spelled (full_text fs bytes.0) read.0 (was_ok (plain_path (full_text fs bytes.0)) read.0 read.1) in
    subst (IsOnPage fs) same.1 (record { limits = spelled.0; page = tests.0 })

abbrev pub IsTokenOn : Option (List ℕ) → Option (List (List ℕ)) → Type 0
IsTokenOn fs token = IfSome token (IsOnPage fs)

right_token_of : (fs text : Option (List ℕ)) → IsRight (token_of fs text) (IsTokenOn fs)
right_token_of fs None = tt
right_token_of fs (Some text) =
    chosen (λ (r : Result (Option (List (List ℕ))) Code). IsRight r (IsTokenOn fs)) (length text == 0) (Ok None)
    (after (or_refused code.InvalidQueryParameterValue (token_path fs text)) (λ path. Ok (Some path))) (λ _. tt)
    (right_after (IsOnPage fs) (IsTokenOn fs) (or_refused code.InvalidQueryParameterValue (token_path fs text)) (λ path. Ok (Some path))
    (right_or_refused (IsOnPage fs) code.InvalidQueryParameterValue (token_path fs text) refl (λ path e. token_on_page fs text path e))
    (λ path h. h))

pub right_token : (fs : Option (List ℕ)) (query : List (List ℕ × List ℕ)) → IsRight (token_in fs query) (IsTokenOn fs)
unfolding token_in
right_token fs query = right_token_of fs (first_value query (codes "continuation"))
