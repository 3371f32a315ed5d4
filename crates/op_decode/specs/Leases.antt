-- Path Lease, and what an append does with a lease. A missing header that has to be there is `MissingRequiredHeader`, a bad one
-- `InvalidHeaderValue`. Durations and periods are seconds.
use Rattle.std.specs.Prelude.{ℕ, Bool, true, false, not, ◌&&◌, nat_le, List, Option, None, Some, Result, Ok, Err, bytes_eq, codes, if◌then◌else◌}
use Rattle.head_text.specs.Decimal.{decimal_value}
use Rattle.http_front.specs.declared.raw.Raw.{Raw}
use Rattle.lease_state.specs.declared.lease.AppendLease.{AppendLease}
use Rattle.lease_state.specs.declared.lease.AppendLease.TheVariants as append
use Rattle.lease_state.specs.declared.lease.LeaseAction.{LeaseAction}
use Rattle.lease_state.specs.declared.lease.LeaseAction.TheVariants as action
use Rattle.namespace_model.specs.declared.code.Code.{Code}
use Rattle.namespace_model.specs.declared.code.Code.TheVariants.{InvalidHeaderValue, InvalidInput, MissingRequiredHeader}
use Rattle.namespace_model.specs.declared.op.Op.{Op}
use Rattle.namespace_model.specs.declared.op.Op.TheVariants as op
use Rattle.op_decode.specs.HeaderValues.{needed_lease_id_in}
use Rattle.op_decode.specs.Headers.{header}
use Rattle.op_decode.specs.Orders.{after, if_given, needed}

-- ---- seconds

abbrev pub seconds_within : ℕ → ℕ → Option ℕ → Result ℕ Code
seconds_within least most None = Err InvalidHeaderValue
seconds_within least most (Some secs) = if nat_le least secs && nat_le secs most then Ok secs else Err InvalidHeaderValue

-- a number from the least to the greatest one
abbrev pub seconds_of : ℕ → ℕ → List ℕ → Result ℕ Code
seconds_of least most text = seconds_within least most (decimal_value text)

-- `-1` for a lease without end, or 15 to 60
unfoldable pub duration_of : List ℕ → Result (Option ℕ) Code
duration_of text = if bytes_eq text (codes "-1") then Ok None else after (seconds_of 15 60 text) (λ secs. Ok (Some secs))

unfoldable pub duration_in : Raw → Result (Option ℕ) Code
duration_in raw = needed MissingRequiredHeader duration_of (header (codes "x-ms-lease-duration") raw)

-- 0 to 60, where one is given
unfoldable pub period_in : Raw → Result (Option ℕ) Code
period_in raw = if_given (seconds_of 0 60) (header (codes "x-ms-lease-break-period") raw)

-- ---- ids

-- the id that the caller gives for the lease
abbrev pub given_id_in : Raw → Result ℕ Code
given_id_in raw = needed_lease_id_in (codes "x-ms-lease-id") raw

-- the id that the lease is to have
abbrev pub proposed_id_in : Raw → Result ℕ Code
proposed_id_in raw = needed_lease_id_in (codes "x-ms-proposed-lease-id") raw

-- ---- actions on leases

unfoldable pub acquire_in : Raw → Result LeaseAction Code
acquire_in raw = after (duration_in raw) (λ secs. after (proposed_id_in raw) (λ proposed. Ok (action.Acquire proposed secs)))

unfoldable pub renew_in : Raw → Result LeaseAction Code
renew_in raw = after (given_id_in raw) (λ given. Ok (action.Renew given))

unfoldable pub change_in : Raw → Result LeaseAction Code
change_in raw = after (given_id_in raw) (λ given. after (proposed_id_in raw) (λ proposed. Ok (action.Change given proposed)))

unfoldable pub release_in : Raw → Result LeaseAction Code
release_in raw = after (given_id_in raw) (λ given. Ok (action.Release given))

unfoldable pub break_in : Raw → Result LeaseAction Code
break_in raw = after (period_in raw) (λ period. Ok (action.Break period))

unfoldable pub action_named : List ℕ → Raw → Result LeaseAction Code
action_named text raw =
    if bytes_eq text (codes "acquire") then acquire_in raw
    else (if bytes_eq text (codes "renew") then renew_in raw
    else (if bytes_eq text (codes "change") then change_in raw
    else (if bytes_eq text (codes "release") then release_in raw
    else (if bytes_eq text (codes "break") then break_in raw else Err InvalidHeaderValue))))

unfoldable pub action_in : Raw → Result LeaseAction Code
action_in raw = needed MissingRequiredHeader (λ text. action_named text raw) (header (codes "x-ms-lease-action") raw)

-- the lease action
unfoldable pub lease_of : List (List ℕ) → Raw → Result Op Code
lease_of path raw = after (action_in raw) (λ action. Ok (op.Lease path action))

-- ---- the lease action of an append

unfoldable pub append_acquire_in : Raw → Result AppendLease Code
append_acquire_in raw = after (duration_in raw) (λ secs. after (proposed_id_in raw) (λ proposed. Ok (append.Acquire proposed secs)))

unfoldable pub append_renew_in : Raw → Result AppendLease Code
append_renew_in raw = after (given_id_in raw) (λ given. Ok append.AutoRenew)

unfoldable pub append_release_in : Raw → Result AppendLease Code
append_release_in raw = after (given_id_in raw) (λ given. Ok append.Release)

unfoldable pub append_acquire_release_in : Raw → Result AppendLease Code
append_acquire_release_in raw =
    after (duration_in raw) (λ secs. after (proposed_id_in raw) (λ proposed. Ok (append.AcquireRelease proposed secs)))

unfoldable pub append_named : List ℕ → Raw → Result AppendLease Code
append_named text raw =
    if bytes_eq text (codes "acquire") then append_acquire_in raw
    else (if bytes_eq text (codes "auto-renew") then append_renew_in raw
    else (if bytes_eq text (codes "release") then append_release_in raw
    else (if bytes_eq text (codes "acquire-release") then append_acquire_release_in raw else Err InvalidHeaderValue)))

abbrev pub append_action_of : Option (List ℕ) → Raw → Result AppendLease Code
append_action_of None raw = Ok append.Plain
append_action_of (Some text) raw = append_named text raw

unfoldable pub append_action_in : Raw → Result AppendLease Code
append_action_in raw = append_action_of (header (codes "x-ms-lease-action") raw) raw

abbrev pub releases : AppendLease → Bool
releases append.Plain = false
releases (append.Acquire proposed secs) = false
releases append.AutoRenew = false
releases append.Release = true
releases (append.AcquireRelease proposed secs) = true

-- an append that releases a lease has to flush
abbrev pub where_flushed : Bool → AppendLease → Result AppendLease Code
where_flushed flush action = if releases action && not flush then Err InvalidInput else Ok action
