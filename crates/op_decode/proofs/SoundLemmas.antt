-- Whatever is decoded is sound.
use Rattle.std.proofs.Common.{◌≡◌, ℕ, suc, ◌≤◌, Bool, true, false, cond, List, [], ◌∷◌, length, Option, Some, None, Result, Ok, Err, IfOk, refl, sym, ap, subst, ◌∙◌, arith}
use Rattle.std.specs.Prelude.{⊤, ◌==◌, nat_le, codes}
use Rattle.std.specs.List.{slice_split}
use Rattle.std.proofs.lemmas.Bool.Decides.{nat_tests}
use Rattle.acl_text.specs.Ids.{id_of}
use Rattle.head_text.specs.ETags.{is_comma, trimmed}
use Rattle.http_front.specs.declared.raw.Raw.{Raw}
use Rattle.path_text.specs.Targets.{target_parts}
use Rattle.path_text.specs.Texts.{KeepsLimits}
use Rattle.path_text.specs.declared.fault.PathFault.{PathFault}
use Rattle.path_text.specs.declared.fault.PathFault.TheVariants.{BadFsName}
use Rattle.path_text.specs.declared.fault.TargetStop.{TargetStop}
use Rattle.path_text.specs.declared.fault.TargetStop.TheVariants.{Fault, BadQuery}
use Rattle.path_text.proofs.TargetLemmas.{target_is_spelled}
use Rattle.namespace_model.specs.Sound.{HasCaller, HasLeaseId, IsCaller, IsOperation, IsSound}
use Rattle.namespace_model.specs.declared.caller.Caller.{Caller}
use Rattle.namespace_model.specs.declared.code.Code.{Code}
use Rattle.namespace_model.specs.declared.code.Code.TheVariants as code
use Rattle.namespace_model.specs.declared.op.Op.{Op}
use Rattle.namespace_model.specs.declared.op.Op.TheVariants as op
use Rattle.op_decode.specs.declared.asked.Asked.{Asked}
use Rattle.op_decode.specs.declared.asked.Asks.{Asks}
use Rattle.op_decode.specs.declared.operation.Operation.{Operation}
use Rattle.op_decode.specs.Callers.{caller_id_in, caller_of, few_ids_of, groups_given, groups_in, groups_of, ids_of, with_id}
use Rattle.op_decode.specs.ConditionHeaders.{conditions_in}
use Rattle.op_decode.specs.Decoded.{asked, asked_after_caller, asked_after_target, asked_by, asks_for, asks_for_row, asks_in, asks_of, decoded, has_other_encoding, refused, with_ids}
use Rattle.op_decode.specs.HeaderValues.{lease_id_in, source_lease_id_in}
use Rattle.op_decode.specs.Headers.{header}
use Rattle.op_decode.specs.Methods.{method_of}
use Rattle.op_decode.specs.Operations.{operation_of, takes}
use Rattle.op_decode.specs.Orders.{after, or_refused}
use Rattle.op_decode.specs.Rows.{op_of_row}
use Rattle.op_decode.specs.Targets.{or_code, path_code, target_code, target_of}
use Rattle.op_decode.proofs.ReaderLemmas.{Any, IsCode, IsRight, at_least, chosen, right_after, right_lease_id, right_needed, right_source_lease_id}
use Rattle.op_decode.proofs.Fits.{Fits}
use Rattle.op_decode.proofs.RowLemmas.{right_row}

-- ---- the target

right_path_code : (fault : PathFault) → IsCode (path_code fault)
right_path_code BadFsName = refl
right_path_code _ = refl

right_target_code : (stop : TargetStop) → IsCode (target_code stop)
right_target_code (Fault fault) = right_path_code fault
right_target_code BadQuery = refl
right_target_code _ = refl

abbrev HasLimits : List (List ℕ) × List (List ℕ × List ℕ) → Type 0
HasLimits target = KeepsLimits target.0

right_or_code : (target : List ℕ) (r : Result (List (List ℕ) × List (List ℕ × List ℕ)) TargetStop) → target_parts target ≡ r → IsRight (or_code r) HasLimits
right_or_code target (Ok read) e = (target_is_spelled target read.0 read.1 e).path_part.limits
right_or_code target (Err stop) e = right_target_code stop

right_target : (target : List ℕ) → IsRight (target_of target) HasLimits
unfolding target_of
right_target target = right_or_code target (target_parts target) refl

-- ---- the caller

abbrev IsFew : List (List ℕ) → Type 0
IsFew groups = length groups ≤ 64

long_with : (id : Option (List ℕ)) (rest : Option (List (List ℕ))) (ids : List (List ℕ)) (many : ℕ)
    → ((rest_ids : List (List ℕ)) → rest ≡ Some rest_ids → length rest_ids ≡ many) → with_id id rest ≡ Some ids → length ids ≡ suc many
long_with None rest ids many h e = absurd (cc)
long_with (Some id) None ids many h e = absurd (cc)
long_with (Some id) (Some rest) ids many h e =
    let same : (id ∷ rest) ≡ ids = cc in ap length (sym same) ∙ ap suc (h rest refl)

-- as many ids as items
as_long : (items ids : List (List ℕ)) → ids_of items ≡ Some ids → length ids ≡ length items
as_long [] ids e = let same : [] ≡ ids = cc in ap length (sym same)
as_long (item ∷ items) ids e = long_with (id_of (trimmed item)) (ids_of items) ids (length items) (λ rest f. as_long items rest f) e

right_ids : (items : List (List ℕ)) (o : Option (List (List ℕ))) → length items ≤ 64 → ids_of items ≡ o → IsRight (or_refused code.InvalidHeaderValue o) IsFew
right_ids items None few e = refl
right_ids items (Some ids) few e = let same = as_long items ids e in omega (arith, few, same)

right_few : (items : List (List ℕ)) → IsRight (few_ids_of items) IsFew
right_few items =
    chosen (λ (r : Result (List (List ℕ)) Code). IsRight r IsFew) (nat_le (length items) 64) (or_refused code.InvalidHeaderValue (ids_of items))
    (Err code.InvalidHeaderValue) (λ e. right_ids items (ids_of items) (at_least (length items) 64 e) refl) refl

right_groups_given : (text : Option (List ℕ)) → IsRight (groups_given text) IsFew
unfolding groups_of
right_groups_given None = omega arith
right_groups_given (Some text) =
    chosen (λ (r : Result (List (List ℕ)) Code). IsRight r IsFew) (length text == 0) (Ok []) (few_ids_of (slice_split is_comma text)) (λ _. omega arith)
    (right_few (slice_split is_comma text))

right_groups : (raw : Raw) → IsRight (groups_in raw) IsFew
unfolding groups_in
right_groups raw = right_groups_given (header (codes "x-ms-caller-groups") raw)

right_caller_id : (raw : Raw) → IsRight (caller_id_in raw) Any
unfolding caller_id_in
right_caller_id raw =
    right_needed Any code.MissingRequiredHeader (λ text. or_refused code.InvalidHeaderValue (id_of text)) (header (codes "x-ms-caller") raw) refl
    (λ text. by (id_of text))
  where
    by : (o : Option (List ℕ)) → IsRight (or_refused code.InvalidHeaderValue o) Any
    by None = refl
    by (Some id) = tt

abbrev IsRightCaller : Caller → Type 0
IsRightCaller caller = IsCaller (Some caller)

right_caller : (raw : Raw) → IsRight (caller_of raw) IsRightCaller
unfolding caller_of
right_caller raw =
    right_after Any IsRightCaller (caller_id_in raw) (λ id. after (groups_in raw) (λ groups. Ok (record { id = id; groups = groups }))) (right_caller_id raw)
    (λ id _. right_after IsFew IsRightCaller (groups_in raw) (λ groups. Ok (record { id = id; groups = groups })) (right_groups raw) (λ groups few. few))

-- ---- what is asked

record IsFit (body : ℕ) (asks : Asks) : Type 0 where
  operation : IsOperation asks.op body
  id : HasLeaseId asks.op asks.lease

lease_is_given : (raw : Raw) (r : Result (Option ℕ) Code) → lease_id_in (codes "x-ms-lease-id") raw ≡ r → IsRight r Any
    → IsRight r (λ given. lease_id_in (codes "x-ms-lease-id") raw ≡ Ok given)
lease_is_given raw (Ok given) e h = e
lease_is_given raw (Err code) e h = h

right_asks : (raw : Raw) (o : Op) → Fits raw o → IsRight (asks_of o raw) (IsFit (length raw.body))
unfolding asks_of
right_asks raw o fits =
    let last : Option ℕ → Option ℕ → Result Asks Code = λ lease source_lease. Ok (with_ids o raw lease source_lease) in
    right_after (λ given. lease_id_in (codes "x-ms-lease-id") raw ≡ Ok given) (IsFit (length raw.body)) (lease_id_in (codes "x-ms-lease-id") raw)
    (λ lease. after (source_lease_id_in raw) (λ source_lease. last lease source_lease))
    (lease_is_given raw (lease_id_in (codes "x-ms-lease-id") raw) refl (right_lease_id (codes "x-ms-lease-id") raw))
    (λ lease e. right_after Any (IsFit (length raw.body)) (source_lease_id_in raw) (λ source_lease. last lease source_lease)
    (right_source_lease_id raw)
    (λ source_lease _. record { operation = fits.operation; id = fits.id lease e }))

right_for : (operation : Option Operation) (path : List (List ℕ)) (query : List (List ℕ × List ℕ)) (raw : Raw) → KeepsLimits path
    → IsRight (asks_for operation path query raw) (IsFit (length raw.body))
right_for None path query raw limits = refl
right_for (Some operation) path query raw limits =
    chosen (λ (r : Result Asks Code). IsRight r (IsFit (length raw.body))) (takes operation (length path)) (asks_for_row operation path query raw)
    (Err code.InvalidUri)
    (λ e. right_after (Fits raw) (IsFit (length raw.body)) (op_of_row operation path query raw) (λ op. asks_of op raw)
    (right_row operation path query raw limits e) (right_asks raw))
    refl

right_in : (path : List (List ℕ)) (query : List (List ℕ × List ℕ)) (raw : Raw) → KeepsLimits path
    → IsRight (asks_in path query raw) (IsFit (length raw.body))
unfolding asks_in
right_in path query raw limits = right_for (operation_of (method_of raw) query raw) path query raw limits

-- ---- the whole

record IsReady (body : ℕ) (asking : Asked) : Type 0 where
  caller : HasCaller asking.asks.op asking.caller
  asks : IsFit body asking.asks

ready_refused : (who : Option Caller) (code : Code) (body : ℕ) → IsCode code → IsReady body (refused who code)
ready_refused who code body h = record { caller = tt; asks = record { operation = h; id = tt } }

has_caller : (o : Op) (caller : Caller) → IsRightCaller caller → HasCaller o (Some caller)
has_caller (op.Refused code) caller h = tt
has_caller _ caller h = h

ready_by : (caller : Caller) (r : Result Asks Code) (body : ℕ) → IsRightCaller caller → IsRight r (IsFit body) → IsReady body (asked_by caller r)
ready_by caller (Err code) body h fit = ready_refused (Some caller) code body fit
ready_by caller (Ok asks) body h fit = record { caller = has_caller asks.op caller h; asks = fit }

ready_after_caller : (r : Result Caller Code) (path : List (List ℕ)) (query : List (List ℕ × List ℕ)) (raw : Raw) → IsRight r IsRightCaller → KeepsLimits path
    → IsReady (length raw.body) (asked_after_caller r path query raw)
ready_after_caller (Err code) path query raw h limits = ready_refused None code (length raw.body) h
ready_after_caller (Ok caller) path query raw h limits =
    ready_by caller (asks_in path query raw) (length raw.body) h (right_in path query raw limits)

ready_after_target : (r : Result (List (List ℕ) × List (List ℕ × List ℕ)) Code) (raw : Raw) → IsRight r HasLimits
    → IsReady (length raw.body) (asked_after_target r raw)
ready_after_target (Err code) raw h = ready_refused None code (length raw.body) h
ready_after_target (Ok target) raw h = ready_after_caller (caller_of raw) target.0 target.1 raw (right_caller raw) h

ready_asked : (raw : Raw) → IsReady (length raw.body) (asked raw)
unfolding asked
ready_asked raw =
    chosen (IsReady (length raw.body)) (has_other_encoding raw) (refused None code.UnsupportedContentEncoding) (asked_after_target (target_of raw.target) raw)
    (λ _. ready_refused None code.UnsupportedContentEncoding (length raw.body) refl)
    (ready_after_target (target_of raw.target) raw (right_target raw.target))

pub decoded_is_sound : (raw : Raw) → IsSound (decoded raw)
unfolding decoded
decoded_is_sound raw =
    let ready = ready_asked raw in
    record { caller = ready.caller; lease = ready.asks.id; operation = ready.asks.operation }

-- what holds of a value holds of a result that is this value where it is `Ok`
pub holds_of_value : {A E : Type 0} (P : A → Type 0) (r : Result A E) (x : A) → IfOk r (λ a. a ≡ x) → P x → IfOk r P
holds_of_value P (Ok a) x is holds = subst P (sym is) holds
holds_of_value P (Err e) x is holds = tt
