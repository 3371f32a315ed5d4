-- Options are read one after the other.
use Rattle.std.proofs.Common.{◌≡◌, ℕ, Bool, true, false, cond, ◌&&◌, ◌==◌, ◌<◌, length, nat_lt, Bor, List, [], ◌∷◌, bytes_eq, Option, Some, None, option_map, unwrap_or, map, filter, refl, sym, subst, ap, ◌∙◌, arith, lit<}
use Rattle.std.specs.Prelude.{String, codes}
use Rattle.std.specs.List.{position_or_len, before_first, after_first}
use Rattle.std.proofs.lemmas.Bool.{false≢true}
use Rattle.std.proofs.lemmas.Bool.Decides.{nat_tests}
use Rattle.std.proofs.lemmas.Option.{same_Some, none-some}
use Rattle.std.proofs.lemmas.Str.Pattern.{IsSplitOnceResult, split_once_first}
use Rattle.std.specs.declared.alloc.Global.{Global}
use Rattle.commit_journal.specs.Limits.{LimitNumbers, are_within, limits_of}
use Rattle.commit_journal.specs.declared.limits.TheConstants.{JOURNAL_MOST, BYTES_MOST, REQUESTS_MOST}
use Rattle.command_words.specs.declared.job.Command.{Command}
use Rattle.command_words.specs.declared.job.Command.TheVariants.{Pipe}
use Rattle.command_words.specs.Words.{Given, is_equals, has_value, in_one, in_two, after, with_front, given_in, texts_of, values_of, at_most_one, number_given, takes, journal_option, bytes_option, requests_option, are_options, are_given, limits_for, options_behind, pipe_limits}

-- ---- the first of the words

cut_is : (word : List ℕ) (name value : Bor (List ℕ)) → IsSplitOnceResult 61 word (Some (name, value))
    → (has_value word ≡ true) × (name.now ≡ before_first is_equals word) × (value.now ≡ after_first is_equals word)
cut_is word name value cut =
    let parts = split_once_first 61 word (Some (name, value)) cut (lit< tt) in
    let within : position_or_len is_equals word < length word = parts.0 in
    let has : nat_lt (position_or_len is_equals word) (length word) ≡ true = grind (arith, nat_tests) in
    (has, parts.1, parts.2)

no_cut : (word : List ℕ) → IsSplitOnceResult 61 word None → has_value word ≡ false
no_cut word none =
    let at_end : position_or_len is_equals word ≡ length word = split_once_first 61 word None none (lit< tt) in
    let lacks : nat_lt (position_or_len is_equals word) (length word) ≡ false = grind (arith, nat_tests) in lacks

in_one_given : (word : List ℕ) (behind : List (List ℕ)) → has_value word ≡ true → given_in (word ∷ behind) ≡ with_front (in_one word) (given_in behind)
unfolding given_in
in_one_given word [] has = ap (λ b. cond b (Some (in_one word ∷ [])) None) has
in_one_given word (next ∷ behind) has = ap (λ b. cond b (with_front (in_one word) (given_in (next ∷ behind))) (with_front (in_two word next) (given_in behind))) has

-- the value stands in the word
pub cut_given : (word : List ℕ) (behind : List (List ℕ)) (name value : Bor (List ℕ)) → IsSplitOnceResult 61 word (Some (name, value))
    → given_in (word ∷ behind) ≡ with_front (record { name = name.now; value = value.now }) (given_in behind)
cut_given word behind name value cut =
    let is = cut_is word name value cut in
    in_one_given word behind is.0 ∙ ap (λ n. with_front (record { name = n; value = after_first is_equals word }) (given_in behind)) (sym is.1)
    ∙ ap (λ v. with_front (record { name = name.now; value = v }) (given_in behind)) (sym is.2)

-- the value is the next word
pub next_given : (word next : List ℕ) (behind : List (List ℕ)) → IsSplitOnceResult 61 word None
    → given_in (word ∷ next ∷ behind) ≡ with_front (record { name = word; value = next }) (given_in behind)
unfolding given_in
next_given word next behind none =
    ap (λ b. cond b (with_front (in_one word) (given_in (next ∷ behind))) (with_front (in_two word next) (given_in behind))) (no_cut word none)

-- there is no value
pub none_given : (word : List ℕ) (behind : List (String Global)) → length behind ≡ 0 → IsSplitOnceResult 61 word None → given_in (word ∷ texts_of behind) ≡ None
unfolding given_in
none_given word (next ∷ behind) e none = absurd (omega arith)
none_given word [] e none = ap (λ b. cond b (Some (in_one word ∷ [])) None) (no_cut word none)

-- ---- no words

pub is_none : (n : ℕ) → (n == 0) ≡ true → n ≡ 0
is_none n e = grind (arith, nat_tests)

pub all_given : (command : Command) (words : List (String Global)) → length words ≡ 0 → are_given command words ≡ true
unfolding given_in
all_given command [] e = refl
all_given command (word ∷ words) e = absurd (omega arith)

-- ---- one option and those behind it

module _ (command : Command) where
  -- the options are those of the command where the first is one, and those behind it are
  pub are_first : (first : Given) (more : Option (List Given)) (b : Bool) → takes command first.name ≡ b
      → unwrap_or (option_map (are_options command) (with_front first more)) false ≡ cond b (unwrap_or (option_map (are_options command) more) false) false
  are_first first None true e = refl
  are_first first None false e = refl
  are_first first (Some given) true e = ap (λ b. b && are_options command given) e
  are_first first (Some given) false e = ap (λ b. b && are_options command given) e

-- ---- the value of one option

-- the value, where one was found before
abbrev pub value_behind : Option (List ℕ) → List (List ℕ) → Option (Option (List ℕ))
value_behind None values = at_most_one values
value_behind (Some value) [] = Some (Some value)
value_behind (Some value) (next ∷ values) = None

abbrev pub value_left : Option (List ℕ) → List ℕ → List (String Global) → Option (Option (List ℕ))
value_left found name words = after (given_in (texts_of words)) (λ given. value_behind found (values_of name given))

pub value_read : (found : Option (List ℕ)) (name : List ℕ) (words : List (String Global)) → length words ≡ 0 → value_left found name words ≡ Some found
unfolding given_in
value_read None name [] e = refl
value_read (Some value) name [] e = refl
value_read found name (word ∷ words) e = absurd (omega arith)

values_other : (name : List ℕ) (first : Given) (given : List Given) → bytes_eq first.name name ≡ false → values_of name (first ∷ given) ≡ values_of name given
values_other name first given e = ap (λ b. map (λ (g : Given). g.value) (cond b (first ∷ filter (λ (g : Given). bytes_eq g.name name) given) (filter (λ (g : Given). bytes_eq g.name name) given))) e

values_same : (name : List ℕ) (first : Given) (given : List Given) → bytes_eq first.name name ≡ true → values_of name (first ∷ given) ≡ first.value ∷ values_of name given
values_same name first given e = ap (λ b. map (λ (g : Given). g.value) (cond b (first ∷ filter (λ (g : Given). bytes_eq g.name name) given) (filter (λ (g : Given). bytes_eq g.name name) given))) e

module _ (name : List ℕ) (first : Given) where
  -- another option is passed over
  pub passed : (more : Option (List Given)) (found : Option (List ℕ)) → bytes_eq first.name name ≡ false
      → after (with_front first more) (λ given. value_behind found (values_of name given)) ≡ after more (λ given. value_behind found (values_of name given))
  passed None found e = refl
  passed (Some given) found e = ap (value_behind found) (values_other name first given e)

  -- the option comes again
  pub again : (more : Option (List Given)) (value : List ℕ) → bytes_eq first.name name ≡ true
      → after (with_front first more) (λ given. value_behind (Some value) (values_of name given)) ≡ None
  again None value e = refl
  again (Some given) value e = ap (value_behind (Some value)) (values_same name first given e)

  -- the option comes
  is_value : (values : List (List ℕ)) → at_most_one (first.value ∷ values) ≡ value_behind (Some first.value) values
  is_value [] = refl
  is_value (value ∷ values) = refl

  pub taken : (more : Option (List Given)) → bytes_eq first.name name ≡ true
      → after (with_front first more) (λ given. value_behind None (values_of name given)) ≡ after more (λ given. value_behind (Some first.value) (values_of name given))
  taken None e = refl
  taken (Some given) e = ap at_most_one (values_same name first given e) ∙ is_value (values_of name given)

-- ---- the limits that the words give

-- what was read, where something comes of it
some_after : {A B : Type 0} (read : Option A) (f : A → Option B) (y : B) → after read f ≡ Some y → (x : A) × (f x ≡ Some y)
some_after None f y e = absurd (none-some _ e)
some_after (Some x) f y e = (x, e)

-- what is asked for holds, where something comes of it
some_where : {A : Type 0} (b : Bool) (x : Option A) (y : A) → cond b x None ≡ Some y → (b ≡ true) × (x ≡ Some y)
some_where true x y e = (refl, e)
some_where false x y e = absurd (none-some _ e)

both : (a b : Bool) → (a && b) ≡ true → (a ≡ true) × (b ≡ true)
both true b e = (refl, e)
both false b e = absurd (false≢true e)

within_request : (n : LimitNumbers) → are_within n ≡ true → 0 < n.requests_max
within_request n e = grind (arith, nat_tests)

limits_request : (n limits : LimitNumbers) → limits_of n ≡ Some limits → 0 < limits.requests_max
limits_request n limits e =
    let within = some_where (are_within n) (Some n) limits e in
    subst (λ (m : LimitNumbers). 0 < m.requests_max) (same_Some n limits within.1) (within_request n within.0)

-- limits give room for a request
pub for_request : (passes : ℕ) (words : List (String Global)) (limits : LimitNumbers) → limits_for passes words ≡ Some limits → 0 < limits.requests_max
for_request passes words limits e =
    let entries = some_after (number_given journal_option JOURNAL_MOST words) _ limits e in
    let bytes = some_after (number_given bytes_option BYTES_MOST words) _ limits entries.1 in
    let requests = some_after (number_given requests_option REQUESTS_MOST words) _ limits bytes.1 in
    limits_request (record { passes = passes; journal_max = entries.0; bytes_max = bytes.0; requests_max = requests.0 }) limits requests.1

-- so do those of `pipe`
pub some_request : (words : List (String Global)) (limits : LimitNumbers) → pipe_limits words ≡ Some limits → 0 < limits.requests_max
some_request words limits e =
    let options = some_after (options_behind Pipe (codes "pipe") words) (limits_for 1) limits e in
    for_request 1 options.0 limits options.1
