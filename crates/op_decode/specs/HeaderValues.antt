-- Values of headers that several operations have. A missing one that has to be there is `MissingRequiredHeader`, a bad one
-- `InvalidHeaderValue`.
use Rattle.std.specs.Prelude.{ℕ, List, Option, Result, Ok, Err, codes}
use Rattle.acl_text.specs.Ids.{id_of}
use Rattle.acl_text.specs.PermTexts.{permissions_of, umask_of}
use Rattle.acl_text.specs.declared.perm.ModeBits.{ModeBits}
use Rattle.head_text.specs.Properties.{Property}
use Rattle.head_text.specs.PropertyTexts.{properties_of}
use Rattle.http_front.specs.declared.raw.Raw.{Raw}
use Rattle.lease_state.specs.LeaseId.{lease_id_of}
use Rattle.namespace_model.specs.declared.code.Code.{Code}
use Rattle.namespace_model.specs.declared.code.Code.TheVariants.{MissingRequiredHeader, InvalidHeaderValue}
use Rattle.op_decode.specs.Headers.{header}
use Rattle.op_decode.specs.Orders.{if_given, needed, or_refused}

-- a text that could not be read is a bad value
abbrev pub or_bad_header : {A Fault : Type 0} → Result A Fault → Result A Code
or_bad_header (Ok value) = Ok value
or_bad_header (Err fault) = Err InvalidHeaderValue

-- ---- permissions

unfoldable pub permissions_in : Raw → Result (Option ModeBits) Code
permissions_in raw = if_given (λ text. or_bad_header (permissions_of text)) (header (codes "x-ms-permissions") raw)

unfoldable pub umask_in : Raw → Result (Option ModeBits) Code
umask_in raw = if_given (λ text. or_bad_header (umask_of text)) (header (codes "x-ms-umask") raw)

-- ---- properties

unfoldable pub props_of : List ℕ → Result (List Property) Code
props_of text = or_bad_header (properties_of text)

unfoldable pub props_in : Raw → Result (Option (List Property)) Code
props_in raw = if_given props_of (header (codes "x-ms-properties") raw)

unfoldable pub needed_props_in : Raw → Result (List Property) Code
needed_props_in raw = needed MissingRequiredHeader props_of (header (codes "x-ms-properties") raw)

-- ---- ids

unfoldable pub id_in : List ℕ → Raw → Result (Option (List ℕ)) Code
id_in name raw = if_given (λ text. or_refused InvalidHeaderValue (id_of text)) (header name raw)

unfoldable pub lease_id_in : List ℕ → Raw → Result (Option ℕ) Code
lease_id_in name raw = if_given (λ text. or_refused InvalidHeaderValue (lease_id_of text)) (header name raw)

unfoldable pub needed_lease_id_in : List ℕ → Raw → Result ℕ Code
needed_lease_id_in name raw = needed MissingRequiredHeader (λ text. or_refused InvalidHeaderValue (lease_id_of text)) (header name raw)

-- the lease id for the source of a rename
unfoldable pub source_lease_id_in : Raw → Result (Option ℕ) Code
source_lease_id_in raw = lease_id_in (codes "x-ms-source-lease-id") raw
