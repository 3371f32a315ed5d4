-- The request of a raw one. Six checks go in their order, and the first that fails decides; they stand here from the last to the first.
use Rattle.std.specs.Prelude.{ℕ, Bool, List, length, Option, None, Some, Result, Ok, Err, codes, if◌then◌else◌}
use Rattle.http_front.specs.declared.raw.Raw.{Raw}
use Rattle.namespace_model.specs.declared.caller.Caller.{Caller}
use Rattle.namespace_model.specs.declared.code.Code.{Code}
use Rattle.namespace_model.specs.declared.code.Code.TheVariants.{InvalidUri, UnsupportedHttpVerb, UnsupportedContentEncoding}
use Rattle.namespace_model.specs.declared.op.Op.{Op}
use Rattle.namespace_model.specs.declared.op.Op.TheVariants.{Refused}
use Rattle.namespace_model.specs.declared.request.Request.{Request}
use Rattle.head_text.specs.Conditions.{no_conditions}
use Rattle.op_decode.specs.declared.asked.Asked.{Asked}
use Rattle.op_decode.specs.declared.asked.Asks.{Asks}
use Rattle.op_decode.specs.declared.operation.Operation.{Operation}
use Rattle.op_decode.specs.Headers.{header, is_other_text}
use Rattle.op_decode.specs.HeaderValues.{lease_id_in, source_lease_id_in}
use Rattle.op_decode.specs.ConditionHeaders.{conditions_in}
use Rattle.op_decode.specs.Connections.{closes}
use Rattle.op_decode.specs.Methods.{method_of, is_head}
use Rattle.op_decode.specs.Operations.{operation_of, takes}
use Rattle.op_decode.specs.Orders.{after, or_refused}
use Rattle.op_decode.specs.Rows.{op_of_row}
use Rattle.op_decode.specs.Targets.{target_of}
use Rattle.op_decode.specs.Callers.{caller_of}

-- what is asked, with the ids that were read; the conditions are read last, and never fail
abbrev pub with_ids : Op → Raw → Option ℕ → Option ℕ → Asks
with_ids op raw lease source_lease = record { op = op; cond = conditions_in raw; lease = lease; source_lease = source_lease }

abbrev pub asks_with_lease : Op → Raw → Option ℕ → Result Asks Code
asks_with_lease op raw lease = after (source_lease_id_in raw) (λ source_lease. Ok (with_ids op raw lease source_lease))

-- The sixth check: the lease ids.
unfoldable pub asks_of : Op → Raw → Result Asks Code
asks_of op raw = after (lease_id_in (codes "x-ms-lease-id") raw) (asks_with_lease op raw)

-- The fifth check: what the operation takes. It goes before the sixth.
abbrev pub asks_for_row : Operation → List (List ℕ) → List (List ℕ × List ℕ) → Raw → Result Asks Code
asks_for_row operation path query raw = after (op_of_row operation path query raw) (λ op. asks_of op raw)

-- The fourth check: method and distinction are of an operation, and the path has as many parts as it takes.
abbrev pub asks_for : Option Operation → List (List ℕ) → List (List ℕ × List ℕ) → Raw → Result Asks Code
asks_for None path query raw = Err UnsupportedHttpVerb
asks_for (Some operation) path query raw = if takes operation (length path) then asks_for_row operation path query raw else Err InvalidUri

unfoldable pub asks_in : List (List ℕ) → List (List ℕ × List ℕ) → Raw → Result Asks Code
asks_in path query raw = asks_for (operation_of (method_of raw) query raw) path query raw

-- a refusal asks nothing, and keeps no conditions and no lease ids
abbrev pub refusal : Code → Asks
refusal code = record { op = Refused code; cond = no_conditions; lease = None; source_lease = None }

-- a refusal, with the caller where it was read before
abbrev pub refused : Option Caller → Code → Asked
refused caller code = record { caller = caller; asks = refusal code }

-- from the fourth check on a refusal has the caller
abbrev pub asked_by : Caller → Result Asks Code → Asked
asked_by caller (Err code) = refused (Some caller) code
asked_by caller (Ok asks) = record { caller = Some caller; asks = asks }

-- The third check: the caller.
abbrev pub asked_after_caller : Result Caller Code → List (List ℕ) → List (List ℕ × List ℕ) → Raw → Asked
asked_after_caller (Err code) path query raw = refused None code
asked_after_caller (Ok caller) path query raw = asked_by caller (asks_in path query raw)

-- The second check: the target.
abbrev pub asked_after_target : Result (List (List ℕ) × List (List ℕ × List ℕ)) Code → Raw → Asked
asked_after_target (Err code) raw = refused None code
asked_after_target (Ok target) raw = asked_after_caller (caller_of raw) target.0 target.1 raw

-- The first check: the body has no coding (RFC 9110, section 8.4).
abbrev pub has_other_encoding : Raw → Bool
has_other_encoding raw = is_other_text (codes "identity") (header (codes "content-encoding") raw)

-- what is asked, and by whom
unfoldable pub asked : Raw → Asked
asked raw = if has_other_encoding raw then refused None UnsupportedContentEncoding else asked_after_target (target_of raw.target) raw

unfoldable pub decoded : Raw → Request
decoded raw = record {
  caller = (asked raw).caller;
  op = (asked raw).asks.op;
  cond = (asked raw).asks.cond;
  lease = (asked raw).asks.lease;
  source_lease = (asked raw).asks.source_lease;
  head = is_head raw;
  close = closes raw;
  body = raw.body;
}
