-- Targets of requests: a path with escapes as in RFC 3986, and a query.
use Rattle.std.specs.Prelude.{ℕ, ◌+◌, ◌<◌, length, ◌≡◌, Bool, true, false, not, ◌&&◌, ◌||◌, ◌==◌, List, [], ◌∷◌, map, drop, slice_index, position, Option, Some, None, is_some, Result, Ok, Err, option_map, if◌then◌else◌}
use Rattle.std.specs.List.{slice_split, before_first, after_first, flat_map, join_with_byte}
use Rattle.std.specs.Char.{is_ascii_hexdigit, is_ascii_alphabetic, is_ascii_digit}
use Rattle.percent_encoding.specs.Percent.{percent_encode_byte, percent_decode}
use Rattle.path_text.specs.Names.{is_slash}
use Rattle.path_text.specs.Texts.{BeginsWithSlash, plain_path, KeepsLimits, Spells}
use Rattle.path_text.specs.Queries.{SpellsQuery, is_ampersand, is_equals}
use Rattle.path_text.specs.declared.fault.PathFault.TheVariants.{BadEscape, EmptyName}
use Rattle.path_text.specs.declared.fault.TargetStop.{TargetStop}
use Rattle.path_text.specs.declared.fault.TargetStop.TheVariants.{Fault, BadQuery}

-- `%` stands at the front without two hex digits behind it
abbrev pub begins_badly : List ℕ → Bool
begins_badly text = slice_index text 0 == 37 && not (is_ascii_hexdigit (slice_index text 1) && is_ascii_hexdigit (slice_index text 2))

-- the place of the first `%` without two hex digits behind it
unfoldable pub bad_escape : List ℕ → Option ℕ
bad_escape [] = None
bad_escape (b ∷ rest) = if begins_badly (b ∷ rest) then Some 0 else option_map (λ at. at + 1) (bad_escape rest)

-- a `%` without two hex digits behind it stands at the place, and none before it
pub record IsFirstBadEscape (text : List ℕ) (at : ℕ) : Type 0 where
  pub within : at < length text
  pub bad : begins_badly (drop at text) ≡ true
  pub none_before : (k : ℕ) → k < at → begins_badly (drop k text) ≡ false

abbrev pub is_question_mark : ℕ → Bool
is_question_mark b = b == 63

-- the target up to its first `?`
abbrev pub path_piece : List ℕ → List ℕ
path_piece target = before_first is_question_mark target

-- what stands behind the first `?`
abbrev pub query_piece : List ℕ → Option (List ℕ)
query_piece target = option_map (λ at. drop (at + 1) target) (position is_question_mark target)

-- a piece of a query, cut at its first `=`
unfoldable pub pair_of : List ℕ → List ℕ × List ℕ
pair_of piece = (percent_decode (before_first is_equals piece), percent_decode (after_first is_equals piece))

-- a query, cut at each `&`; none has no pairs
unfoldable pub query_pairs : Option (List ℕ) → List (List ℕ × List ℕ)
query_pairs None = []
query_pairs (Some query) = map pair_of (slice_split is_ampersand query)

abbrev pub has_bad_query : Option (List ℕ) → Bool
has_bad_query None = false
has_bad_query (Some query) = is_some (bad_escape query)

abbrev pub unless_escape_is_bad : Option ℕ → Result (List (List ℕ)) TargetStop → Result (List (List ℕ)) TargetStop
unless_escape_is_bad None path = path
unless_escape_is_bad (Some at) path = Err (Fault (BadEscape at))

-- the path of a target, or its first fault
unfoldable pub target_path : List ℕ → Result (List (List ℕ)) TargetStop
target_path target =
    if is_slash (slice_index target 0)
    then unless_escape_is_bad (bad_escape (path_piece target)) (plain_path (percent_decode (path_piece target)))
    else Err (Fault (EmptyName 0))

abbrev pub with_query : Result (List (List ℕ)) TargetStop → Option (List ℕ) → Result (List (List ℕ) × List (List ℕ × List ℕ)) TargetStop
with_query (Err stop) query = Err stop
with_query (Ok path) query = if has_bad_query query then Err BadQuery else Ok (path, query_pairs query)

-- what a target stands for
unfoldable pub target_parts : List ℕ → Result (List (List ℕ) × List (List ℕ × List ℕ)) TargetStop
target_parts target = with_query (target_path target) (query_piece target)

-- the unreserved characters of RFC 3986: a letter, a digit, `-`, `.`, `_` or `~`
abbrev pub is_unreserved : ℕ → Bool
is_unreserved b = is_ascii_alphabetic b || is_ascii_digit b || b == 45 || b == 46 || b == 95 || b == 126

-- an unreserved byte as it is, and `%` and two upper-case hex digits for another
abbrev pub escaped_byte : ℕ → List ℕ
escaped_byte b = if is_unreserved b then b ∷ [] else percent_encode_byte b

unfoldable pub escaped : List ℕ → List ℕ
escaped part = flat_map escaped_byte part

-- `/`, then the escaped parts with `/` between them
unfoldable pub written_path : List (List ℕ) → List ℕ
written_path path = 47 ∷ join_with_byte 47 (map escaped path)

-- no place has a `%` without two hex digits behind it
abbrev pub HasNoBadEscape : List ℕ → Type 0
HasNoBadEscape text = (at : ℕ) → ¬ (IsFirstBadEscape text at)

-- a target's path: it begins with `/`, and what stands before the first `?` has no bad escape and decodes to a text of the path, which
-- keeps the limits
pub record SpellsTargetPath (target : List ℕ) (path : List (List ℕ)) : Type 0 where
  pub slash : BeginsWithSlash target
  pub escapes : HasNoBadEscape (path_piece target)
  pub limits : KeepsLimits path
  pub spelled : Spells (percent_decode (path_piece target)) path

-- what stands behind the first `?` has no bad escape and spells the pairs; without a `?` there are none
abbrev pub SpellsQueryPart : Option (List ℕ) → List (List ℕ × List ℕ) → Type 0
SpellsQueryPart None pairs = pairs ≡ []
SpellsQueryPart (Some query) pairs = HasNoBadEscape query × SpellsQuery query pairs

-- a target stands for a path and the pairs of a query
pub record SpellsTarget (target : List ℕ) (path : List (List ℕ)) (pairs : List (List ℕ × List ℕ)) : Type 0 where
  pub path_part : SpellsTargetPath target path
  pub query_part : SpellsQueryPart (query_piece target) pairs
