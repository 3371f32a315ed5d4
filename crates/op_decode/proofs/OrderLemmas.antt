-- What each check refuses, and what all of them let through.
use Rattle.std.proofs.Common.{◌≡◌, ℕ, Bool, true, false, cond, List, length, Option, Some, None, Result, Ok, Err, refl, sym, ap, subst, ◌∙◌}
use Rattle.std.specs.Prelude.{codes}
use Rattle.http_front.specs.declared.raw.Raw.{Raw}
use Rattle.namespace_model.specs.declared.caller.Caller.{Caller}
use Rattle.namespace_model.specs.declared.code.Code.{Code}
use Rattle.namespace_model.specs.declared.code.Code.TheVariants.{InvalidUri, UnsupportedContentEncoding, UnsupportedHttpVerb}
use Rattle.namespace_model.specs.declared.op.Op.{Op}
use Rattle.op_decode.specs.declared.asked.Asked.{Asked}
use Rattle.op_decode.specs.declared.asked.Asks.{Asks}
use Rattle.op_decode.specs.declared.operation.Operation.{Operation}
use Rattle.op_decode.specs.Callers.{caller_of}
use Rattle.op_decode.specs.ConditionHeaders.{conditions_in}
use Rattle.op_decode.specs.Decoded.{asked, asked_after_caller, asked_after_target, asked_by, asks_for, asks_for_row, asks_in, asks_of, decoded, has_other_encoding, refused, with_ids}
use Rattle.op_decode.specs.HeaderValues.{lease_id_in, source_lease_id_in}
use Rattle.op_decode.specs.Laws.{IsRefused, IsTaken, PassesAll, PassesCaller, PassesOperation, PassesRow, PassesTarget}
use Rattle.op_decode.specs.Methods.{method_of}
use Rattle.op_decode.specs.Operations.{operation_of, takes}
use Rattle.op_decode.specs.Orders.{after}
use Rattle.op_decode.specs.Rows.{op_of_row}
use Rattle.op_decode.specs.Targets.{target_of}

asked_refused : (raw : Raw) (who : Option Caller) (code : Code) → asked raw ≡ refused who code → IsRefused raw who code
unfolding decoded
asked_refused raw who code e = record {
  op = ap (λ (a : Asked). a.asks.op) e;
  caller = ap (λ (a : Asked). a.caller) e;
  conditions = ap (λ (a : Asked). a.asks.cond) e;
  lease = ap (λ (a : Asked). a.asks.lease) e;
  source_lease = ap (λ (a : Asked). a.asks.source_lease) e;
}

encoding_at : (raw : Raw) (b : Bool) → has_other_encoding raw ≡ b
    → asked raw ≡ cond b (refused None UnsupportedContentEncoding) (asked_after_target (target_of raw.target) raw)
unfolding asked
encoding_at raw b e = ap (λ (b : Bool). cond b (refused None UnsupportedContentEncoding) (asked_after_target (target_of raw.target) raw)) e

pub encoding_refused : (raw : Raw) → has_other_encoding raw ≡ true → IsRefused raw None UnsupportedContentEncoding
encoding_refused raw e = asked_refused raw None UnsupportedContentEncoding (encoding_at raw true e)

target_at : (raw : Raw) (target : Result (List (List ℕ) × List (List ℕ × List ℕ)) Code) → has_other_encoding raw ≡ false → target_of raw.target ≡ target
    → asked raw ≡ asked_after_target target raw
target_at raw target encoding e =
    encoding_at raw false encoding ∙ ap (λ (t : Result (List (List ℕ) × List (List ℕ × List ℕ)) Code). asked_after_target t raw) e

pub target_refused : (raw : Raw) (code : Code) → has_other_encoding raw ≡ false → target_of raw.target ≡ Err code → IsRefused raw None code
target_refused raw code encoding e = asked_refused raw None code (target_at raw (Err code) encoding e)

caller_at : (raw : Raw) (path : List (List ℕ)) (query : List (List ℕ × List ℕ)) (caller : Result Caller Code) → PassesTarget raw path query
    → caller_of raw ≡ caller → asked raw ≡ asked_after_caller caller path query raw
caller_at raw path query caller passes e =
    target_at raw (Ok (path, query)) passes.encoding passes.target ∙ ap (λ (c : Result Caller Code). asked_after_caller c path query raw) e

pub caller_refused : (raw : Raw) (path : List (List ℕ)) (query : List (List ℕ × List ℕ)) (code : Code) → PassesTarget raw path query
    → caller_of raw ≡ Err code → IsRefused raw None code
caller_refused raw path query code passes e = asked_refused raw None code (caller_at raw path query (Err code) passes e)

operation_at : (raw : Raw) (path : List (List ℕ)) (query : List (List ℕ × List ℕ)) (who : Caller) (operation : Option Operation)
    → PassesCaller raw path query who → operation_of (method_of raw) query raw ≡ operation
    → asked raw ≡ asked_by who (asks_for operation path query raw)
unfolding asks_in
operation_at raw path query who operation passes e =
    caller_at raw path query (Ok who) passes.target passes.caller
    ∙ ap (λ (o : Option Operation). asked_by who (asks_for o path query raw)) e

pub operation_refused : (raw : Raw) (path : List (List ℕ)) (query : List (List ℕ × List ℕ)) (who : Caller) → PassesCaller raw path query who
    → operation_of (method_of raw) query raw ≡ None → IsRefused raw (Some who) UnsupportedHttpVerb
operation_refused raw path query who passes e =
    asked_refused raw (Some who) UnsupportedHttpVerb (operation_at raw path query who None passes e)

parts_at : (raw : Raw) (path : List (List ℕ)) (query : List (List ℕ × List ℕ)) (who : Caller) (operation : Operation) (b : Bool)
    → PassesCaller raw path query who → operation_of (method_of raw) query raw ≡ Some operation → takes operation (length path) ≡ b
    → asked raw ≡ asked_by who (cond b (asks_for_row operation path query raw) (Err InvalidUri))
parts_at raw path query who operation b passes e parts =
    operation_at raw path query who (Some operation) passes e
    ∙ ap (λ (b : Bool). asked_by who (cond b (asks_for_row operation path query raw) (Err InvalidUri))) parts

pub parts_refused : (raw : Raw) (path : List (List ℕ)) (query : List (List ℕ × List ℕ)) (who : Caller) (operation : Operation)
    → PassesCaller raw path query who → operation_of (method_of raw) query raw ≡ Some operation → takes operation (length path) ≡ false
    → IsRefused raw (Some who) InvalidUri
parts_refused raw path query who operation passes e parts =
    asked_refused raw (Some who) InvalidUri (parts_at raw path query who operation false passes e parts)

row_at : (raw : Raw) (path : List (List ℕ)) (query : List (List ℕ × List ℕ)) (who : Caller) (operation : Operation) (row : Result Op Code)
    → PassesOperation raw path query who operation → op_of_row operation path query raw ≡ row
    → asked raw ≡ asked_by who (after row (λ op. asks_of op raw))
row_at raw path query who operation row passes e =
    parts_at raw path query who operation true passes.caller passes.operation passes.parts
    ∙ ap (λ (r : Result Op Code). asked_by who (after r (λ op. asks_of op raw))) e

pub row_refused : (raw : Raw) (path : List (List ℕ)) (query : List (List ℕ × List ℕ)) (who : Caller) (operation : Operation) (code : Code)
    → PassesOperation raw path query who operation → op_of_row operation path query raw ≡ Err code → IsRefused raw (Some who) code
row_refused raw path query who operation code passes e =
    asked_refused raw (Some who) code (row_at raw path query who operation (Err code) passes e)

-- ---- the lease ids

abbrev given : Raw → Result (Option ℕ) Code
given raw = lease_id_in (codes "x-ms-lease-id") raw

abbrev given_source : Raw → Result (Option ℕ) Code
given_source raw = source_lease_id_in raw

abbrev source_after : Op → Raw → Option ℕ → Result (Option ℕ) Code → Result Asks Code
source_after op raw lease source = after source (λ source. Ok (with_ids op raw lease source))

lease_at : (raw : Raw) (path : List (List ℕ)) (query : List (List ℕ × List ℕ)) (who : Caller) (operation : Operation) (op : Op)
    (lease : Result (Option ℕ) Code) → PassesRow raw path query who operation op → given raw ≡ lease
    → asked raw ≡ asked_by who (after lease (λ lease. source_after op raw lease (given_source raw)))
unfolding asks_of
lease_at raw path query who operation op lease passes e =
    row_at raw path query who operation (Ok op) passes.operation passes.row
    ∙ ap (λ (r : Result (Option ℕ) Code). asked_by who (after r (λ lease. source_after op raw lease (given_source raw)))) e

pub lease_refused : (raw : Raw) (path : List (List ℕ)) (query : List (List ℕ × List ℕ)) (who : Caller) (operation : Operation) (op : Op) (code : Code)
    → PassesRow raw path query who operation op → given raw ≡ Err code → IsRefused raw (Some who) code
lease_refused raw path query who operation op code passes e =
    asked_refused raw (Some who) code (lease_at raw path query who operation op (Err code) passes e)

source_at : (raw : Raw) (path : List (List ℕ)) (query : List (List ℕ × List ℕ)) (who : Caller) (operation : Operation) (op : Op)
    (lease : Option ℕ) (source : Result (Option ℕ) Code) → PassesRow raw path query who operation op → given raw ≡ Ok lease → given_source raw ≡ source
    → asked raw ≡ asked_by who (source_after op raw lease source)
source_at raw path query who operation op lease source passes e f =
    lease_at raw path query who operation op (Ok lease) passes e
    ∙ ap (λ (r : Result (Option ℕ) Code). asked_by who (source_after op raw lease r)) f

pub source_refused : (raw : Raw) (path : List (List ℕ)) (query : List (List ℕ × List ℕ)) (who : Caller) (operation : Operation) (op : Op)
    (lease : Option ℕ) (code : Code) → PassesRow raw path query who operation op → given raw ≡ Ok lease → given_source raw ≡ Err code
    → IsRefused raw (Some who) code
source_refused raw path query who operation op lease code passes e f =
    asked_refused raw (Some who) code (source_at raw path query who operation op lease (Err code) passes e f)

-- ---- what is not refused

refused_is_not_taken : (raw : Raw) (who : Option Caller) (code : Code) (o : Op) → asked raw ≡ refused who code → (asked raw).asks.op ≡ o → IsTaken o → ⊥
refused_is_not_taken raw who code o e is taken = subst IsTaken (sym is ∙ ap (λ (a : Asked). a.asks.op) e) taken

taken_all : (raw : Raw) (path : List (List ℕ)) (query : List (List ℕ × List ℕ)) (who : Caller) (operation : Operation) (op o : Op) (lease source : Option ℕ)
    → PassesRow raw path query who operation op → given raw ≡ Ok lease → given_source raw ≡ Ok source → (asked raw).asks.op ≡ o → PassesAll raw o
unfolding decoded
taken_all raw path query who operation op o lease source passes e f is =
    let at : asked raw ≡ record { caller = Some who; asks = with_ids op raw lease source } =
    source_at raw path query who operation op lease (Ok source) passes e f in
    let same : op ≡ o = sym (ap (λ (a : Asked). a.asks.op) at) ∙ is in
    record {
      path = path;
      query = query;
      who = who;
      operation = operation;
      passes = record { operation = passes.operation; row = passes.row ∙ ap Ok same };
      lease = e ∙ ap Ok (sym (ap (λ (a : Asked). a.asks.lease) at));
      source_lease = f ∙ ap Ok (sym (ap (λ (a : Asked). a.asks.source_lease) at));
      caller = ap (λ (a : Asked). a.caller) at;
      conditions = ap (λ (a : Asked). a.asks.cond) at;
    }

taken_source : (raw : Raw) (path : List (List ℕ)) (query : List (List ℕ × List ℕ)) (who : Caller) (operation : Operation) (op o : Op) (lease : Option ℕ)
    (source : Result (Option ℕ) Code) → PassesRow raw path query who operation op → given raw ≡ Ok lease → given_source raw ≡ source
    → (asked raw).asks.op ≡ o → IsTaken o → PassesAll raw o
taken_source raw path query who operation op o lease (Err code) passes e f is taken =
    absurd (refused_is_not_taken raw (Some who) code o (source_at raw path query who operation op lease (Err code) passes e f) is taken)
taken_source raw path query who operation op o lease (Ok source) passes e f is taken =
    taken_all raw path query who operation op o lease source passes e f is

taken_lease : (raw : Raw) (path : List (List ℕ)) (query : List (List ℕ × List ℕ)) (who : Caller) (operation : Operation) (op o : Op)
    (lease : Result (Option ℕ) Code) → PassesRow raw path query who operation op → given raw ≡ lease → (asked raw).asks.op ≡ o → IsTaken o → PassesAll raw o
taken_lease raw path query who operation op o (Err code) passes e is taken =
    absurd (refused_is_not_taken raw (Some who) code o (lease_at raw path query who operation op (Err code) passes e) is taken)
taken_lease raw path query who operation op o (Ok lease) passes e is taken =
    taken_source raw path query who operation op o lease (given_source raw) passes e refl is taken

taken_row : (raw : Raw) (path : List (List ℕ)) (query : List (List ℕ × List ℕ)) (who : Caller) (operation : Operation) (o : Op) (row : Result Op Code)
    → PassesOperation raw path query who operation → op_of_row operation path query raw ≡ row → (asked raw).asks.op ≡ o → IsTaken o → PassesAll raw o
taken_row raw path query who operation o (Err code) passes e is taken =
    absurd (refused_is_not_taken raw (Some who) code o (row_at raw path query who operation (Err code) passes e) is taken)
taken_row raw path query who operation o (Ok op) passes e is taken =
    taken_lease raw path query who operation op o (given raw) (record { operation = passes; row = e }) refl is taken

taken_count : (raw : Raw) (path : List (List ℕ)) (query : List (List ℕ × List ℕ)) (who : Caller) (operation : Operation) (o : Op) (b : Bool)
    → PassesCaller raw path query who → operation_of (method_of raw) query raw ≡ Some operation → takes operation (length path) ≡ b
    → (asked raw).asks.op ≡ o → IsTaken o → PassesAll raw o
taken_count raw path query who operation o false passes e parts is taken =
    absurd (refused_is_not_taken raw (Some who) InvalidUri o (parts_at raw path query who operation false passes e parts) is taken)
taken_count raw path query who operation o true passes e parts is taken =
    taken_row raw path query who operation o (op_of_row operation path query raw) (record { caller = passes; operation = e; parts = parts }) refl is taken

taken_operation : (raw : Raw) (path : List (List ℕ)) (query : List (List ℕ × List ℕ)) (who : Caller) (o : Op) (operation : Option Operation)
    → PassesCaller raw path query who → operation_of (method_of raw) query raw ≡ operation → (asked raw).asks.op ≡ o → IsTaken o → PassesAll raw o
taken_operation raw path query who o None passes e is taken =
    absurd (refused_is_not_taken raw (Some who) UnsupportedHttpVerb o (operation_at raw path query who None passes e) is taken)
taken_operation raw path query who o (Some operation) passes e is taken =
    taken_count raw path query who operation o (takes operation (length path)) passes e refl is taken

taken_caller : (raw : Raw) (path : List (List ℕ)) (query : List (List ℕ × List ℕ)) (o : Op) (caller : Result Caller Code) → PassesTarget raw path query
    → caller_of raw ≡ caller → (asked raw).asks.op ≡ o → IsTaken o → PassesAll raw o
taken_caller raw path query o (Err code) passes e is taken =
    absurd (refused_is_not_taken raw None code o (caller_at raw path query (Err code) passes e) is taken)
taken_caller raw path query o (Ok who) passes e is taken =
    taken_operation raw path query who o (operation_of (method_of raw) query raw) (record { target = passes; caller = e }) refl is taken

taken_target : (raw : Raw) (o : Op) (target : Result (List (List ℕ) × List (List ℕ × List ℕ)) Code) → has_other_encoding raw ≡ false
    → target_of raw.target ≡ target → (asked raw).asks.op ≡ o → IsTaken o → PassesAll raw o
taken_target raw o (Err code) encoding e is taken =
    absurd (refused_is_not_taken raw None code o (target_at raw (Err code) encoding e) is taken)
taken_target raw o (Ok target) encoding e is taken =
    taken_caller raw target.0 target.1 o (caller_of raw) (record { encoding = encoding; target = e }) refl is taken

taken_encoding : (raw : Raw) (o : Op) (b : Bool) → has_other_encoding raw ≡ b → (asked raw).asks.op ≡ o → IsTaken o → PassesAll raw o
taken_encoding raw o true e is taken =
    absurd (refused_is_not_taken raw None UnsupportedContentEncoding o (encoding_at raw true e) is taken)
taken_encoding raw o false e is taken = taken_target raw o (target_of raw.target) e refl is taken

pub taken_passes : (raw : Raw) (o : Op) → (decoded raw).op ≡ o → IsTaken o → PassesAll raw o
unfolding decoded
taken_passes raw o is taken = taken_encoding raw o (has_other_encoding raw) refl is taken
