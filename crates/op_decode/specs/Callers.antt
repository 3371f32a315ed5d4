-- Who sent a request: an id, and the groups that it belongs to.
use Rattle.std.specs.Prelude.{ℕ, ◌==◌, nat_le, List, [], ◌∷◌, length, Option, None, Some, Result, Ok, Err, codes, if◌then◌else◌}
use Rattle.std.specs.List.{slice_split}
use Rattle.acl_text.specs.Ids.{id_of}
use Rattle.head_text.specs.ETags.{is_comma, trimmed}
use Rattle.http_front.specs.declared.raw.Raw.{Raw}
use Rattle.namespace_model.specs.declared.caller.Caller.{Caller}
use Rattle.namespace_model.specs.declared.code.Code.{Code}
use Rattle.namespace_model.specs.declared.code.Code.TheVariants.{MissingRequiredHeader, InvalidHeaderValue}
use Rattle.op_decode.specs.Headers.{header}
use Rattle.op_decode.specs.Orders.{after, needed, or_refused}

-- ---- the groups

-- an id and others behind it, where each is one
abbrev pub with_id : Option (List ℕ) → Option (List (List ℕ)) → Option (List (List ℕ))
with_id None ids = None
with_id (Some id) None = None
with_id (Some id) (Some ids) = Some (id ∷ ids)

-- the ids of items, each with spaces and tabs round it, where every one is an id
abbrev pub ids_of : List (List ℕ) → Option (List (List ℕ))
ids_of [] = Some []
ids_of (item ∷ items) = with_id (id_of (trimmed item)) (ids_of items)

-- at most 64
abbrev pub few_ids_of : List (List ℕ) → Result (List (List ℕ)) Code
few_ids_of items = if nat_le (length items) 64 then or_refused InvalidHeaderValue (ids_of items) else Err InvalidHeaderValue

-- ids between commas; the empty value has none
unfoldable pub groups_of : List ℕ → Result (List (List ℕ)) Code
groups_of text = if length text == 0 then Ok [] else few_ids_of (slice_split is_comma text)

abbrev pub groups_given : Option (List ℕ) → Result (List (List ℕ)) Code
groups_given None = Ok []
groups_given (Some text) = groups_of text

unfoldable pub groups_in : Raw → Result (List (List ℕ)) Code
groups_in raw = groups_given (header (codes "x-ms-caller-groups") raw)

-- ---- the caller

-- the id has to be there
unfoldable pub caller_id_in : Raw → Result (List ℕ) Code
caller_id_in raw = needed MissingRequiredHeader (λ text. or_refused InvalidHeaderValue (id_of text)) (header (codes "x-ms-caller") raw)

-- the id, and then the groups
unfoldable pub caller_of : Raw → Result Caller Code
caller_of raw = after (caller_id_in raw) (λ id. after (groups_in raw) (λ groups. Ok (record { id = id; groups = groups })))
