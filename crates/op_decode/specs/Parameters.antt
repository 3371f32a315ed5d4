-- Parameters that several operations have. A missing one that has to be there is `MissingRequiredQueryParameter`, a bad one
-- `InvalidQueryParameterValue`, and a size of 0 `OutOfRangeQueryParameterValue`.
use Rattle.std.specs.Prelude.{ℕ, Bool, true, false, ◌==◌, nat_le, List, length, Option, None, Some, Result, Ok, Err, bytes_eq, codes, if◌then◌else◌}
use Rattle.head_text.specs.Decimal.{decimal_value}
use Rattle.path_text.specs.Queries.{first_value}
use Rattle.path_text.specs.Tokens.{token_path}
use Rattle.namespace_model.specs.declared.code.Code.{Code}
use Rattle.namespace_model.specs.declared.code.Code.TheVariants.{InvalidQueryParameterValue, MissingRequiredQueryParameter, OutOfRangeQueryParameterValue}
use Rattle.op_decode.specs.Orders.{after, needed, or_refused}

-- `true` or `false`, and false where it is absent
unfoldable pub flag_of : Option (List ℕ) → Result Bool Code
flag_of None = Ok false
flag_of (Some text) =
    if bytes_eq text (codes "true") then Ok true else (if bytes_eq text (codes "false") then Ok false else Err InvalidQueryParameterValue)

-- the flag of this name
unfoldable pub flag_in : List ℕ → List (List ℕ × List ℕ) → Result Bool Code
flag_in name query = flag_of (first_value query name)

-- 1 to 19 digits
abbrev pub number_of : List ℕ → Result ℕ Code
number_of text = or_refused InvalidQueryParameterValue (decimal_value text)

-- where an append or a flush works, in bytes; it has to be there
unfoldable pub position_in : List (List ℕ × List ℕ) → Result ℕ Code
position_in query = needed MissingRequiredQueryParameter number_of (first_value query (codes "position"))

-- the size of a page or a batch is at least 1, and at most so many
abbrev pub size_within : ℕ → ℕ → Result ℕ Code
size_within most size = if size == 0 then Err OutOfRangeQueryParameterValue else (if nat_le size most then Ok size else Ok most)

abbrev pub size_of : ℕ → Option (List ℕ) → Result ℕ Code
size_of most None = Ok most
size_of most (Some text) = after (number_of text) (size_within most)

-- the size of this name, the greatest one where it is absent or above that
unfoldable pub size_in : List ℕ → ℕ → List (List ℕ × List ℕ) → Result ℕ Code
size_in name most query = size_of most (first_value query name)

-- a token of a page of the filesystem, or of the account where none is given; the empty text is none
abbrev pub token_of : Option (List ℕ) → Option (List ℕ) → Result (Option (List (List ℕ))) Code
token_of fs None = Ok None
token_of fs (Some text) =
    if length text == 0 then Ok None else after (or_refused InvalidQueryParameterValue (token_path fs text)) (λ path. Ok (Some path))

-- where a page goes on
unfoldable pub token_in : Option (List ℕ) → List (List ℕ × List ℕ) → Result (Option (List (List ℕ))) Code
token_in fs query = token_of fs (first_value query (codes "continuation"))
