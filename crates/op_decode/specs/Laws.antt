-- What decoding keeps, in the words of a request's sender.
use Rattle.std.specs.Prelude.{◌≡◌, ℕ, true, false, ⊤, List, [], ◌∷◌, length, Option, Some, None, Ok, codes}
use Rattle.std.specs.Str.{str_to_ascii_lowercase}
use Rattle.http_front.specs.declared.raw.Raw.{Raw}
use Rattle.head_text.specs.Conditions.{no_conditions}
use Rattle.namespace_model.specs.declared.caller.Caller.{Caller}
use Rattle.namespace_model.specs.declared.code.Code.{Code}
use Rattle.namespace_model.specs.declared.op.Op.{Op}
use Rattle.namespace_model.specs.declared.op.Op.TheVariants as op
use Rattle.op_decode.specs.declared.operation.Operation.{Operation}
use Rattle.op_decode.specs.Callers.{caller_of}
use Rattle.op_decode.specs.ConditionHeaders.{conditions_in}
use Rattle.op_decode.specs.Decoded.{decoded, has_other_encoding}
use Rattle.op_decode.specs.HeaderValues.{lease_id_in, source_lease_id_in}
use Rattle.op_decode.specs.Methods.{method_of}
use Rattle.op_decode.specs.Operations.{operation_of, takes}
use Rattle.op_decode.specs.Rows.{op_of_row}
use Rattle.op_decode.specs.Targets.{target_of}

-- ---- the checks

-- refused with this code, and with this caller; no conditions and no lease ids are kept
pub record IsRefused (raw : Raw) (who : Option Caller) (code : Code) : Type 0 where
  pub op : (decoded raw).op ≡ op.Refused code
  pub caller : (decoded raw).caller ≡ who
  pub conditions : (decoded raw).cond ≡ no_conditions
  pub lease : (decoded raw).lease ≡ None
  pub source_lease : (decoded raw).source_lease ≡ None

-- the first two checks pass: the body is not encoded, and the target is this path and query
pub record PassesTarget (raw : Raw) (path : List (List ℕ)) (query : List (List ℕ × List ℕ)) : Type 0 where
  pub encoding : has_other_encoding raw ≡ false
  pub target : target_of raw.target ≡ Ok (path, query)

-- the third passes too: this caller asks
pub record PassesCaller (raw : Raw) (path : List (List ℕ)) (query : List (List ℕ × List ℕ)) (who : Caller) : Type 0 where
  pub target : PassesTarget raw path query
  pub caller : caller_of raw ≡ Ok who

-- and the fourth: this operation is asked, of a path with as many parts as it takes
pub record PassesOperation (raw : Raw) (path : List (List ℕ)) (query : List (List ℕ × List ℕ)) (who : Caller) (asked : Operation) : Type 0 where
  pub caller : PassesCaller raw path query who
  pub operation : operation_of (method_of raw) query raw ≡ Some asked
  pub parts : takes asked (length path) ≡ true

-- and the fifth: the operation has what it takes, and this is asked
pub record PassesRow (raw : Raw) (path : List (List ℕ)) (query : List (List ℕ × List ℕ)) (who : Caller) (asked : Operation) (op : Op) : Type 0 where
  pub operation : PassesOperation raw path query who asked
  pub row : op_of_row asked path query raw ≡ Ok op

-- Every check passes, and this is asked. The request has the caller, the lease ids and the conditions that were read.
pub record PassesAll (raw : Raw) (op : Op) : Type 0 where
  pub path : List (List ℕ)
  pub query : List (List ℕ × List ℕ)
  pub who : Caller
  pub operation : Operation
  pub passes : PassesRow raw path query who operation op
  pub lease : lease_id_in (codes "x-ms-lease-id") raw ≡ Ok (decoded raw).lease
  pub source_lease : source_lease_id_in raw ≡ Ok (decoded raw).source_lease
  pub caller : (decoded raw).caller ≡ Some who
  pub conditions : (decoded raw).cond ≡ conditions_in raw

abbrev pub IsTaken : Op → Type 0
IsTaken (op.Refused code) = ⊥
IsTaken _ = ⊤

-- ---- the headers

abbrev pub with_headers : Raw → List (List ℕ × List ℕ) → Raw
with_headers raw headers = record raw { headers = headers }

-- a header with its name in lower case
abbrev pub lowered : List ℕ × List ℕ → List ℕ × List ℕ
lowered header = (str_to_ascii_lowercase header.0, header.1)

-- the names that decoding looks up; it also looks for names that begin with `x-ms-source-if-`
abbrev pub known_names : List (List ℕ)
known_names =
    codes "content-encoding" ∷ codes "x-ms-caller" ∷ codes "x-ms-caller-groups" ∷ codes "x-http-method-override" ∷ codes "connection"
    ∷ codes "x-ms-permissions" ∷ codes "x-ms-umask" ∷ codes "x-ms-owner" ∷ codes "x-ms-group" ∷ codes "x-ms-acl"
    ∷ codes "if-match" ∷ codes "if-none-match" ∷ codes "if-modified-since" ∷ codes "if-unmodified-since" ∷ codes "range"
    ∷ codes "x-ms-lease-id" ∷ codes "x-ms-lease-action" ∷ codes "x-ms-lease-duration" ∷ codes "x-ms-proposed-lease-id"
    ∷ codes "x-ms-lease-break-period" ∷ codes "x-ms-source-lease-id"
    ∷ codes "x-ms-properties" ∷ codes "x-ms-rename-source" ∷ []
