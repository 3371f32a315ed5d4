-- Path Read, and the two forms of Path Update that change the bytes of a file: append and flush.
use Rattle.std.specs.Prelude.{ℕ, Bool, ◌==◌, List, length, Option, option_and_then, Result, Ok, Err, codes, if◌then◌else◌}
use Rattle.head_text.specs.Ranges.{range_of}
use Rattle.head_text.specs.declared.range.Range.{Range}
use Rattle.http_front.specs.declared.raw.Raw.{Raw}
use Rattle.namespace_model.specs.declared.code.Code.{Code}
use Rattle.namespace_model.specs.declared.code.Code.TheVariants.{InvalidInput}
use Rattle.namespace_model.specs.declared.op.Op.{Op}
use Rattle.namespace_model.specs.declared.op.Op.TheVariants as op
use Rattle.op_decode.specs.Headers.{header}
use Rattle.op_decode.specs.Leases.{append_action_in, where_flushed}
use Rattle.op_decode.specs.Orders.{after}
use Rattle.op_decode.specs.Parameters.{flag_in, position_in}

-- a range of another form is as if it were absent (RFC 9110, section 14.2)
unfoldable pub range_in : Raw → Option Range
range_in raw = option_and_then range_of (header (codes "range") raw)

unfoldable pub read_of : List (List ℕ) → Raw → Result Op Code
read_of path raw = Ok (op.Read path (range_in raw))

unfoldable pub with_body : Raw → Result Unit Code
with_body raw = if length raw.body == 0 then Err InvalidInput else Ok tt

unfoldable pub without_body : Raw → Result Unit Code
without_body raw = if length raw.body == 0 then Ok tt else Err InvalidInput

-- whether what is staged behind the end is kept
unfoldable pub retain_in : List (List ℕ × List ℕ) → Result Bool Code
retain_in query = flag_in (codes "retainUncommittedData") query

-- position, `flush`, `retainUncommittedData`; a body; the lease action, and one that releases flushes
unfoldable pub append_of : List (List ℕ) → List (List ℕ × List ℕ) → Raw → Result Op Code
append_of path query raw =
    after (position_in query) (λ position.
    after (flag_in (codes "flush") query) (λ flush.
    after (retain_in query) (λ retain.
    after (with_body raw) (λ body.
    after (append_action_in raw) (λ named.
    after (where_flushed flush named) (λ action.
    Ok (op.Append path position flush retain action)))))))

-- position, `retainUncommittedData`; no body
unfoldable pub flush_of : List (List ℕ) → List (List ℕ × List ℕ) → Raw → Result Op Code
flush_of path query raw =
    after (position_in query) (λ position.
    after (retain_in query) (λ retain.
    after (without_body raw) (λ body.
    Ok (op.Flush path position retain))))
