-- The words of a command line: a command, and then options, each of them at most once, with the value in the next word or behind a `=`.
use Rattle.std.specs.Prelude.{◌≡◌, ℕ, ◌==◌, ◌&&◌, ◌||◌, Bool, nat_lt, nat_le, List, [], ◌∷◌, length, map, filter, bytes_eq, codes, String, string_bytes, Option, Some, None, option_map, unwrap_or, false, if◌then◌else◌}
use Rattle.std.specs.List.{list_all, position_or_len, before_first, after_first}
use Rattle.std.specs.declared.alloc.Global.{Global}
use Rattle.commit_journal.specs.Limits.{LimitNumbers, limits_of}
use Rattle.commit_journal.specs.declared.limits.TheConstants.{JOURNAL_MOST, BYTES_MOST, REQUESTS_MOST}
use Rattle.head_text.specs.Decimal.{decimal_value}
use Rattle.command_words.specs.declared.job.Command.{Command}
use Rattle.command_words.specs.declared.job.Command.TheVariants.{Pipe, Serve}
use Rattle.command_words.specs.declared.job.ServeWords.{ServeWords}
use Rattle.command_words.specs.declared.job.Job.{Job}
use Rattle.command_words.specs.declared.job.Job.TheVariants as job

-- what comes of what was read, where it could be
abbrev pub after : {A B : Type 0} → Option A → (A → Option B) → Option B
after None f = None
after (Some x) f = f x

-- ---- options as they are given

-- an option, and its value
pub record Given : Type 0 where
  pub name : List ℕ
  pub value : List ℕ

abbrev pub is_equals : ℕ → Bool
is_equals byte = byte == 61

-- whether the value stands in the word itself
abbrev pub has_value : List ℕ → Bool
has_value word = nat_lt (position_or_len is_equals word) (length word)

-- `--x=v`
abbrev pub in_one : List ℕ → Given
in_one word = record { name = before_first is_equals word; value = after_first is_equals word }

-- `--x v`
abbrev pub in_two : List ℕ → List ℕ → Given
in_two word next = record { name = word; value = next }

abbrev pub with_front : Given → Option (List Given) → Option (List Given)
with_front first given = after given (λ more. Some (first ∷ more))

-- what the words give, where each option has its value
unfoldable pub given_in : List (List ℕ) → Option (List Given)
given_in [] = Some []
given_in (word ∷ []) = if has_value word then Some (in_one word ∷ []) else None
given_in (word ∷ next ∷ words) =
    if has_value word then with_front (in_one word) (given_in (next ∷ words)) else with_front (in_two word next) (given_in words)

-- ---- the options of the commands

abbrev pub journal_option : List ℕ
journal_option = codes "--journal-max"

abbrev pub bytes_option : List ℕ
bytes_option = codes "--bytes-max"

abbrev pub requests_option : List ℕ
requests_option = codes "--requests-max"

abbrev pub addr_option : List ℕ
addr_option = codes "--addr"

abbrev pub workers_option : List ℕ
workers_option = codes "--workers"

abbrev pub connections_option : List ℕ
connections_option = codes "--connections"

abbrev pub is_limit : List ℕ → Bool
is_limit name = bytes_eq name journal_option || bytes_eq name bytes_option || bytes_eq name requests_option

-- whether it is an option of the command
abbrev pub takes : Command → List ℕ → Bool
takes Pipe name = is_limit name
takes Serve name = is_limit name || bytes_eq name addr_option || bytes_eq name workers_option || bytes_eq name connections_option

abbrev pub values_of : List ℕ → List Given → List (List ℕ)
values_of name given = map (λ g. g.value) (filter (λ g. bytes_eq g.name name) given)

-- the value of an option, where it is given, which it is at most once
abbrev pub at_most_one : List (List ℕ) → Option (Option (List ℕ))
at_most_one [] = Some None
at_most_one (value ∷ []) = Some (Some value)
at_most_one (value ∷ next ∷ values) = None

-- the number of a value, and this one where there is none
abbrev pub number_in : ℕ → Option (List ℕ) → Option ℕ
number_in otherwise None = Some otherwise
number_in otherwise (Some value) = decimal_value value

abbrev pub are_options : Command → List Given → Bool
are_options command given = list_all (λ g. takes command g.name) given

-- ---- words

abbrev pub texts_of : List (String Global) → List (List ℕ)
texts_of words = map string_bytes words

-- each of the words belongs to an option with its value, and these are options of the command
abbrev pub are_given : Command → List (String Global) → Bool
are_given command words = unwrap_or (option_map (are_options command) (given_in (texts_of words))) false

-- the value of one option among the words
abbrev pub value_given : List ℕ → List (String Global) → Option (Option (List ℕ))
value_given name words = after (given_in (texts_of words)) (λ given. at_most_one (values_of name given))

-- its number, and this one where it is not given
abbrev pub number_given : List ℕ → ℕ → List (String Global) → Option ℕ
number_given name otherwise words = after (value_given name words) (number_in otherwise)

-- the limits of so many passes
abbrev pub limits_for : ℕ → List (String Global) → Option LimitNumbers
limits_for passes words =
    after (number_given journal_option JOURNAL_MOST words) (λ entries.
    after (number_given bytes_option BYTES_MOST words) (λ bytes.
    after (number_given requests_option REQUESTS_MOST words) (λ requests.
    limits_of (record { passes = passes; journal_max = entries; bytes_max = bytes; requests_max = requests }))))

-- what stands behind the command, where all of it are options
abbrev pub options_behind : Command → List ℕ → List (String Global) → Option (List (String Global))
options_behind command name [] = None
options_behind command name (word ∷ words) = if bytes_eq (string_bytes word) name && are_given command words then Some words else None

-- one pass, and the limits that the options behind `pipe` give; none where the words are no such command
abbrev pub pipe_limits : List (String Global) → Option LimitNumbers
pipe_limits words = after (options_behind Pipe (codes "pipe") words) (limits_for 1)

-- ---- serve

-- what `serve` is asked for: the passes of the limits are the workers
pub record ServeGiven : Type 0 where
  pub limits : LimitNumbers
  pub addr : List ℕ
  pub connections : ℕ

-- an address is not empty
abbrev pub addr_in : Option (List ℕ) → Option (List ℕ)
addr_in None = None
addr_in (Some []) = None
addr_in (Some (byte ∷ bytes)) = Some (byte ∷ bytes)

abbrev pub addr_given : List (String Global) → Option (List ℕ)
addr_given words = after (value_given addr_option words) addr_in

-- as many workers as a service may have, and connections as a listener may give
abbrev pub WORKERS_MOST : ℕ
WORKERS_MOST = 64

abbrev pub CONNECTIONS_MOST : ℕ
CONNECTIONS_MOST = 4294967295

abbrev pub within : ℕ → ℕ → Option ℕ
within most count = if nat_le 1 count && nat_le count most then Some count else None

-- a number from 1 to the greatest
abbrev pub count_given : List ℕ → (otherwise most : ℕ) → List (String Global) → Option ℕ
count_given name otherwise most words = after (number_given name otherwise words) (within most)

-- an address, four workers where no other number is given, and as many connections as there may be where no number is given
abbrev pub serve_in : List (String Global) → Option ServeGiven
serve_in words =
    after (addr_given words) (λ addr.
    after (count_given workers_option 4 WORKERS_MOST words) (λ workers.
    after (count_given connections_option CONNECTIONS_MOST CONNECTIONS_MOST words) (λ connections.
    after (limits_for workers words) (λ limits.
    Some (record { limits = limits; addr = addr; connections = connections })))))

abbrev pub serve_given : List (String Global) → Option ServeGiven
serve_given words = after (options_behind Serve (codes "serve") words) serve_in

-- ---- what was read, in these terms

abbrev pub serve_told : ServeWords → ServeGiven
serve_told words = record { limits = words.limits; addr = words.addr.now; connections = words.connections }

-- the job is what the words ask for
abbrev pub IsJobOf : List (String Global) → Option Job → Type 0
IsJobOf words None = (pipe_limits words ≡ None) × (serve_given words ≡ None)
IsJobOf words (Some (job.Pipe limits)) = pipe_limits words ≡ Some limits
IsJobOf words (Some (job.Serve asked)) = serve_given words ≡ Some (serve_told asked)
