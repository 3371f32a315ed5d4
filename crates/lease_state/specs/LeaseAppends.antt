-- What an append does with the lease of its file, and when each fault comes. Moments are milliseconds since 1970,
-- durations are seconds.
use Rattle.std.specs.Prelude.{◌≡◌, ◌≢◌, ℕ, Option, Some, None, Result, Ok, Err}
use Rattle.lease_state.specs.declared.lease.Lease.{Lease}
use Rattle.lease_state.specs.declared.lease.Lease.TheVariants as lease
use Rattle.lease_state.specs.declared.lease.State.TheVariants as state
use Rattle.lease_state.specs.declared.lease.LeaseAction.TheVariants as action
use Rattle.lease_state.specs.declared.lease.AppendLease.{AppendLease}
use Rattle.lease_state.specs.declared.lease.AppendLease.TheVariants.{Plain, Acquire, AutoRenew, Release, AcquireRelease}
use Rattle.lease_state.specs.declared.lease.LeaseFault.{LeaseFault}
use Rattle.lease_state.specs.declared.lease.LeaseFault.TheVariants.{LeaseIdMissing}
use Rattle.lease_state.specs.LeaseTable.{lease_state, lease_act, lease_may_write, lease_after_write, leased_from, kept_id, kept_secs}
use Rattle.lease_state.specs.LeaseFaults.{Holds}

-- an append that renews or releases a lease acts under the id that its caller gives, and needs one
abbrev pub NeedsId : AppendLease → Type 0
NeedsId Plain = ⊥
NeedsId (Acquire p secs) = ⊥
NeedsId AutoRenew = Unit {0}
NeedsId Release = Unit {0}
NeedsId (AcquireRelease p secs) = ⊥

-- what is left where a write passes, and else the fault of the write
abbrev pub once_written : Result Unit LeaseFault → Result Lease LeaseFault → Result Lease LeaseFault
once_written (Ok u) left = left
once_written (Err fault) left = Err fault

-- a lease that was taken is given back, so that none is left
abbrev pub given_back : Result Lease LeaseFault → Result Lease LeaseFault
given_back (Ok taken) = Ok lease.Available
given_back (Err fault) = Err fault

-- the lease after an append at a moment, or the fault: a plain append is a write; one that acquires takes the lease,
-- whatever id is given; one that renews or releases is a write under the given id, and then that action; one that
-- acquires and releases takes the lease and leaves none
abbrev pub lease_act_append : Lease → AppendLease → Option ℕ → ℕ → Result Lease LeaseFault
lease_act_append l Plain given now = once_written (lease_may_write l given now) (Ok (lease_after_write l now))
lease_act_append l (Acquire p secs) given now = lease_act l (action.Acquire p secs) now
lease_act_append l AutoRenew None now = Err LeaseIdMissing
lease_act_append l AutoRenew (Some g) now = once_written (lease_may_write l (Some g) now) (lease_act l (action.Renew g) now)
lease_act_append l Release None now = Err LeaseIdMissing
lease_act_append l Release (Some g) now = once_written (lease_may_write l (Some g) now) (lease_act l (action.Release g) now)
lease_act_append l (AcquireRelease p secs) given now = given_back (lease_act l (action.Acquire p secs) now)

-- what each append that passes leaves
abbrev pub left_by_append : Lease → AppendLease → ℕ → Lease
left_by_append l Plain now = lease_after_write l now
left_by_append l (Acquire p secs) now = leased_from p secs now
left_by_append l AutoRenew now = leased_from (kept_id l) (kept_secs l) now
left_by_append l Release now = lease.Available
left_by_append l (AcquireRelease p secs) now = lease.Available

-- ---- when each fault comes

-- a plain append without an id, while the lease holds
abbrev pub IsAppendWithoutId : Lease → AppendLease → Option ℕ → ℕ → Type 0
IsAppendWithoutId l Plain given now = (given ≡ None) × Holds l now
IsAppendWithoutId l (Acquire p secs) given now = ⊥
IsAppendWithoutId l AutoRenew given now = ⊥
IsAppendWithoutId l Release given now = ⊥
IsAppendWithoutId l (AcquireRelease p secs) given now = ⊥

-- an append that writes under the given id, which is another one than the kept one, while the lease holds
abbrev pub IsAppendOfOther : Lease → AppendLease → Option ℕ → ℕ → Type 0
IsAppendOfOther l a None now = ⊥
IsAppendOfOther l Plain (Some g) now = (g ≢ kept_id l) × Holds l now
IsAppendOfOther l (Acquire p secs) (Some g) now = ⊥
IsAppendOfOther l AutoRenew (Some g) now = (g ≢ kept_id l) × Holds l now
IsAppendOfOther l Release (Some g) now = (g ≢ kept_id l) × Holds l now
IsAppendOfOther l (AcquireRelease p secs) (Some g) now = ⊥

-- an append that writes under the given id, where no lease holds
abbrev pub IsAppendOfNone : Lease → AppendLease → Option ℕ → ℕ → Type 0
IsAppendOfNone l a None now = ⊥
IsAppendOfNone l Plain (Some g) now = ¬ Holds l now
IsAppendOfNone l (Acquire p secs) (Some g) now = ⊥
IsAppendOfNone l AutoRenew (Some g) now = ¬ Holds l now
IsAppendOfNone l Release (Some g) now = ¬ Holds l now
IsAppendOfNone l (AcquireRelease p secs) (Some g) now = ⊥

-- an append that takes a lease under another id than the kept one, while the lease holds
abbrev pub IsTakenByOther : Lease → AppendLease → ℕ → Type 0
IsTakenByOther l Plain now = ⊥
IsTakenByOther l (Acquire p secs) now = Holds l now × (p ≢ kept_id l)
IsTakenByOther l AutoRenew now = ⊥
IsTakenByOther l Release now = ⊥
IsTakenByOther l (AcquireRelease p secs) now = Holds l now × (p ≢ kept_id l)

-- an append that takes a lease under the kept id, while the lease is breaking
abbrev pub IsTakenWhileBreaking : Lease → AppendLease → ℕ → Type 0
IsTakenWhileBreaking l Plain now = ⊥
IsTakenWhileBreaking l (Acquire p secs) now = (lease_state l now ≡ state.Breaking) × (p ≡ kept_id l)
IsTakenWhileBreaking l AutoRenew now = ⊥
IsTakenWhileBreaking l Release now = ⊥
IsTakenWhileBreaking l (AcquireRelease p secs) now = (lease_state l now ≡ state.Breaking) × (p ≡ kept_id l)

-- an append that renews the lease under its id, while the lease is breaking
abbrev pub IsRenewedWhileBreaking : Lease → AppendLease → Option ℕ → ℕ → Type 0
IsRenewedWhileBreaking l Plain given now = ⊥
IsRenewedWhileBreaking l (Acquire p secs) given now = ⊥
IsRenewedWhileBreaking l AutoRenew given now = (given ≡ Some (kept_id l)) × (lease_state l now ≡ state.Breaking)
IsRenewedWhileBreaking l Release given now = ⊥
IsRenewedWhileBreaking l (AcquireRelease p secs) given now = ⊥
