-- What each action and each write gives in each state of a lease. Moments are milliseconds since 1970, durations and
-- periods are seconds.
use Rattle.std.specs.Prelude.{ℕ, ◌+◌, ◌-◌, ◌*◌, ◌==◌, ◌||◌, min, nat_le, Option, Some, None, Result, Ok, Err, if◌then◌else◌}
use Rattle.lease_state.specs.declared.lease.Lease.{Lease}
use Rattle.lease_state.specs.declared.lease.Lease.TheVariants as lease
use Rattle.lease_state.specs.declared.lease.State.{State}
use Rattle.lease_state.specs.declared.lease.State.TheVariants as state
use Rattle.lease_state.specs.declared.lease.LeaseAction.{LeaseAction}
use Rattle.lease_state.specs.declared.lease.LeaseAction.TheVariants.{Acquire, Renew, Change, Release, Break}
use Rattle.lease_state.specs.declared.lease.LeaseFault.{LeaseFault}
use Rattle.lease_state.specs.declared.lease.LeaseFault.TheVariants.{LeaseIdMissing, LeaseIdMismatchWithBlobOperation, LeaseLost, LeaseAlreadyPresent, LeaseIdMismatchWithLeaseOperation, LeaseNotPresentWithLeaseOperation, LeaseIsBreakingAndCannotBeAcquired, LeaseIsBreakingAndCannotBeChanged, LeaseIsBrokenAndCannotBeRenewed}

-- the state at a moment: a lease with an end is expired from its end on, and a breaking one is broken from its end on
abbrev pub lease_state : Lease → ℕ → State
lease_state lease.Available now = state.Available
lease_state (lease.Leased id None until) now = state.Leased
lease_state (lease.Leased id (Some secs) until) now = if nat_le until now then state.Expired else state.Leased
lease_state (lease.Breaking id until) now = if nat_le until now then state.Broken else state.Breaking
lease_state (lease.Broken id) now = state.Broken

-- the id that is kept; there is none in the state available, and nothing looks at this 0
abbrev pub kept_id : Lease → ℕ
kept_id lease.Available = 0
kept_id (lease.Leased id secs until) = id
kept_id (lease.Breaking id until) = id
kept_id (lease.Broken id) = id

-- the duration that is kept, none of an infinite lease
abbrev pub kept_secs : Lease → Option ℕ
kept_secs lease.Available = None
kept_secs (lease.Leased id secs until) = secs
kept_secs (lease.Breaking id until) = None
kept_secs (lease.Broken id) = None

-- the end that is kept
abbrev pub kept_end : Lease → ℕ
kept_end lease.Available = 0
kept_end (lease.Leased id secs until) = until
kept_end (lease.Breaking id until) = until
kept_end (lease.Broken id) = 0

-- the end of a lease of a duration that begins now; an infinite one has no end, and keeps 0
abbrev pub end_from : Option ℕ → ℕ → ℕ
end_from None now = 0
end_from (Some secs) now = now + 1000 * secs

-- a lease with an id that begins now
abbrev pub leased_from : ℕ → Option ℕ → ℕ → Lease
leased_from id secs now = lease.Leased id secs (end_from secs now)

-- acquire with the proposed id p, where k is kept
abbrev pub acquired : State → ℕ → ℕ → Option ℕ → ℕ → Result Lease LeaseFault
acquired state.Available k p secs now = Ok (leased_from p secs now)
acquired state.Leased k p secs now = if p == k then Ok (leased_from p secs now) else Err LeaseAlreadyPresent
acquired state.Expired k p secs now = Ok (leased_from p secs now)
acquired state.Breaking k p secs now =
    if p == k then Err LeaseIsBreakingAndCannotBeAcquired else Err LeaseAlreadyPresent
acquired state.Broken k p secs now = Ok (leased_from p secs now)

-- renew with the given id g, where k and a duration are kept: the lease begins anew with that duration
abbrev pub renewed : State → ℕ → ℕ → Option ℕ → ℕ → Result Lease LeaseFault
renewed state.Available k g secs now = Err LeaseNotPresentWithLeaseOperation
renewed state.Leased k g secs now = if g == k then Ok (leased_from k secs now) else Err LeaseIdMismatchWithLeaseOperation
renewed state.Expired k g secs now = if g == k then Ok (leased_from k secs now) else Err LeaseIdMismatchWithLeaseOperation
renewed state.Breaking k g secs now =
    if g == k then Err LeaseIsBrokenAndCannotBeRenewed else Err LeaseIdMismatchWithLeaseOperation
renewed state.Broken k g secs now =
    if g == k then Err LeaseIsBrokenAndCannotBeRenewed else Err LeaseIdMismatchWithLeaseOperation

-- change from the given id g to the proposed id p, where k, a duration and an end are kept: the same end under p
abbrev pub changed : State → ℕ → ℕ → ℕ → Option ℕ → ℕ → Result Lease LeaseFault
changed state.Available k g p secs until = Err LeaseNotPresentWithLeaseOperation
changed state.Leased k g p secs until =
    if (g == k) || (p == k) then Ok (lease.Leased p secs until) else Err LeaseIdMismatchWithLeaseOperation
changed state.Expired k g p secs until = Err LeaseNotPresentWithLeaseOperation
changed state.Breaking k g p secs until =
    if g == k then Err LeaseIsBreakingAndCannotBeChanged else Err LeaseIdMismatchWithLeaseOperation
changed state.Broken k g p secs until = Err LeaseNotPresentWithLeaseOperation

-- release with the given id g, where k is kept
abbrev pub released : State → ℕ → ℕ → Result Lease LeaseFault
released state.Available k g = Err LeaseNotPresentWithLeaseOperation
released state.Leased k g = if g == k then Ok lease.Available else Err LeaseIdMismatchWithLeaseOperation
released state.Expired k g = if g == k then Ok lease.Available else Err LeaseIdMismatchWithLeaseOperation
released state.Breaking k g = if g == k then Ok lease.Available else Err LeaseIdMismatchWithLeaseOperation
released state.Broken k g = if g == k then Ok lease.Available else Err LeaseIdMismatchWithLeaseOperation

-- how long a leased lease still holds when it is broken, in milliseconds: with an end the time left, or the period b
-- where it is given and less; without an end the period b, and no time where none is given
abbrev pub time_to_break : Option ℕ → ℕ → Option ℕ → ℕ → ℕ
time_to_break (Some secs) until None now = until - now
time_to_break (Some secs) until (Some b) now = min (until - now) (1000 * b)
time_to_break None until None now = 0
time_to_break None until (Some b) now = 1000 * b

-- a lease that holds for some more milliseconds, and is broken at once where there are none
abbrev pub breaking_for : ℕ → ℕ → ℕ → Lease
breaking_for k left now = if left == 0 then lease.Broken k else lease.Breaking k (now + left)

-- the end of a breaking lease that is broken again: the end after the period b where b is given and that is earlier
abbrev pub end_to_break : ℕ → Option ℕ → ℕ → ℕ
end_to_break until None now = until
end_to_break until (Some b) now = min until (now + 1000 * b)

-- a lease that holds until an end, and is broken at once where that end isn't above the moment
abbrev pub breaking_until : ℕ → ℕ → ℕ → Lease
breaking_until k until now = if nat_le until now then lease.Broken k else lease.Breaking k until

-- break with the period b or without one, where k, a duration and an end are kept
abbrev pub broken : State → ℕ → Option ℕ → ℕ → Option ℕ → ℕ → Result Lease LeaseFault
broken state.Available k secs until b now = Err LeaseNotPresentWithLeaseOperation
broken state.Leased k secs until b now = Ok (breaking_for k (time_to_break secs until b now) now)
broken state.Expired k secs until b now = Ok (lease.Broken k)
broken state.Breaking k secs until b now = Ok (breaking_until k (end_to_break until b now) now)
broken state.Broken k secs until b now = Ok (lease.Broken k)

-- the lease after an action at a moment, or the fault
abbrev pub lease_act : Lease → LeaseAction → ℕ → Result Lease LeaseFault
lease_act l (Acquire p secs) now = acquired (lease_state l now) (kept_id l) p secs now
lease_act l (Renew g) now = renewed (lease_state l now) (kept_id l) g (kept_secs l) now
lease_act l (Change g p) now = changed (lease_state l now) (kept_id l) g p (kept_secs l) (kept_end l)
lease_act l (Release g) now = released (lease_state l now) (kept_id l) g
lease_act l (Break b) now = broken (lease_state l now) (kept_id l) (kept_secs l) (kept_end l) b now

-- a write without an id
abbrev pub written_without_id : State → Result Unit LeaseFault
written_without_id state.Available = Ok tt
written_without_id state.Leased = Err LeaseIdMissing
written_without_id state.Expired = Ok tt
written_without_id state.Breaking = Err LeaseIdMissing
written_without_id state.Broken = Ok tt

-- a write with the given id g, where k is kept
abbrev pub written_with_id : State → ℕ → ℕ → Result Unit LeaseFault
written_with_id state.Available k g = Err LeaseLost
written_with_id state.Leased k g = if g == k then Ok tt else Err LeaseIdMismatchWithBlobOperation
written_with_id state.Expired k g = Err LeaseLost
written_with_id state.Breaking k g = if g == k then Ok tt else Err LeaseIdMismatchWithBlobOperation
written_with_id state.Broken k g = Err LeaseLost

-- whether a write passes, with the id given or without one
abbrev pub lease_may_write : Lease → Option ℕ → ℕ → Result Unit LeaseFault
lease_may_write l None now = written_without_id (lease_state l now)
lease_may_write l (Some g) now = written_with_id (lease_state l now) (kept_id l) g

-- what a write that passed leaves, by the state
abbrev pub left_by_write : State → Lease → Lease
left_by_write state.Available l = l
left_by_write state.Leased l = l
left_by_write state.Expired l = lease.Available
left_by_write state.Breaking l = l
left_by_write state.Broken l = l

-- the lease after a write: an expired one is gone
abbrev pub lease_after_write : Lease → ℕ → Lease
lease_after_write l now = left_by_write (lease_state l now) l
