-- Path Update with `setAccessControlRecursive`: the access control lists of a node and of all that is below it.
use Rattle.std.specs.Prelude.{ℕ, List, slice_get, Result, Ok, Err, bytes_eq, codes, if◌then◌else◌}
use Rattle.acl_text.specs.AclTexts.{remove_list_of}
use Rattle.path_text.specs.Queries.{first_value}
use Rattle.http_front.specs.declared.raw.Raw.{Raw}
use Rattle.namespace_model.specs.declared.code.Code.{Code}
use Rattle.namespace_model.specs.declared.code.Code.TheVariants.{InvalidQueryParameterValue, MissingRequiredHeader, MissingRequiredQueryParameter}
use Rattle.namespace_model.specs.declared.op.Op.{Op}
use Rattle.namespace_model.specs.declared.op.Op.TheVariants as op
use Rattle.namespace_model.specs.declared.op.BatchChange.{BatchChange}
use Rattle.namespace_model.specs.declared.op.BatchChange.TheVariants as change
use Rattle.op_decode.specs.declared.batches.Mode.{Mode}
use Rattle.op_decode.specs.declared.batches.Mode.TheVariants as mode
use Rattle.op_decode.specs.AclTexts.{entries_of, or_bad_acl, whole_entries_of}
use Rattle.op_decode.specs.Headers.{header}
use Rattle.op_decode.specs.Orders.{after, needed}
use Rattle.op_decode.specs.Parameters.{flag_in, size_in, token_in}

abbrev pub mode_named : List ℕ → Result Mode Code
mode_named text =
    if bytes_eq text (codes "set") then Ok mode.Set
    else (if bytes_eq text (codes "modify") then Ok mode.Modify
    else (if bytes_eq text (codes "remove") then Ok mode.Remove else Err InvalidQueryParameterValue))

-- `set`, `modify` or `remove`; it has to be given
unfoldable pub mode_in : List (List ℕ × List ℕ) → Result Mode Code
mode_in query = needed MissingRequiredQueryParameter mode_named (first_value query (codes "mode"))

-- entries that make lists by themselves, entries, or items to remove
unfoldable pub change_named : Mode → List ℕ → Result BatchChange Code
change_named mode.Set text = after (whole_entries_of text) (λ list. Ok (change.Set list))
change_named mode.Modify text = after (entries_of text) (λ list. Ok (change.Modify list))
change_named mode.Remove text = after (or_bad_acl (remove_list_of text)) (λ list. Ok (change.Remove list))

-- the list has to be given
unfoldable pub change_in : Mode → Raw → Result BatchChange Code
change_in asked raw = needed MissingRequiredHeader (change_named asked) (header (codes "x-ms-acl") raw)

-- `mode`, `continuation`, `maxRecords`, `forceFlag`; the list
unfoldable pub set_access_recursive_of : List (List ℕ) → List (List ℕ × List ℕ) → Raw → Result Op Code
set_access_recursive_of path query raw =
    after (mode_in query) (λ asked.
    after (token_in (slice_get path 0) query) (λ token.
    after (size_in (codes "maxRecords") 2000 query) (λ max.
    after (flag_in (codes "forceFlag") query) (λ force.
    after (change_in asked raw) (λ change.
    Ok (op.SetAccessRecursive path change token max force))))))
