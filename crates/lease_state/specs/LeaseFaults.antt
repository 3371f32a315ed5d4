-- When each fault comes, in words: on which action, by what the lease is at the moment and which ids are given.
use Rattle.std.specs.Prelude.{◌≡◌, ◌≢◌, ◌⊎◌, ℕ}
use Rattle.lease_state.specs.declared.lease.Lease.{Lease}
use Rattle.lease_state.specs.declared.lease.State.TheVariants as state
use Rattle.lease_state.specs.declared.lease.LeaseAction.{LeaseAction}
use Rattle.lease_state.specs.declared.lease.LeaseAction.TheVariants.{Acquire, Renew, Change, Release, Break}
use Rattle.lease_state.specs.LeaseTable.{lease_state, kept_id}

-- the lease holds at a moment: it is leased or breaking
abbrev pub Holds : Lease → ℕ → Type 0
Holds l now = (lease_state l now ≡ state.Leased) ⊎ (lease_state l now ≡ state.Breaking)

-- an acquire under another id than the kept one, while the lease holds
abbrev pub IsAlreadyPresent : Lease → LeaseAction → ℕ → Type 0
IsAlreadyPresent l (Acquire p secs) now = Holds l now × (p ≢ kept_id l)
IsAlreadyPresent l (Renew g) now = ⊥
IsAlreadyPresent l (Change g p) now = ⊥
IsAlreadyPresent l (Release g) now = ⊥
IsAlreadyPresent l (Break b) now = ⊥

-- an acquire under the kept id, while the lease is breaking
abbrev pub IsAcquiredWhileBreaking : Lease → LeaseAction → ℕ → Type 0
IsAcquiredWhileBreaking l (Acquire p secs) now = (lease_state l now ≡ state.Breaking) × (p ≡ kept_id l)
IsAcquiredWhileBreaking l (Renew g) now = ⊥
IsAcquiredWhileBreaking l (Change g p) now = ⊥
IsAcquiredWhileBreaking l (Release g) now = ⊥
IsAcquiredWhileBreaking l (Break b) now = ⊥

-- a change that gives the kept id, while the lease is breaking
abbrev pub IsChangedWhileBreaking : Lease → LeaseAction → ℕ → Type 0
IsChangedWhileBreaking l (Acquire p secs) now = ⊥
IsChangedWhileBreaking l (Renew g) now = ⊥
IsChangedWhileBreaking l (Change g p) now = (lease_state l now ≡ state.Breaking) × (g ≡ kept_id l)
IsChangedWhileBreaking l (Release g) now = ⊥
IsChangedWhileBreaking l (Break b) now = ⊥

-- a renewal that gives the kept id, when the lease is breaking or broken
abbrev pub IsRenewedOnceBroken : Lease → LeaseAction → ℕ → Type 0
IsRenewedOnceBroken l (Acquire p secs) now = ⊥
IsRenewedOnceBroken l (Renew g) now =
    ((lease_state l now ≡ state.Breaking) ⊎ (lease_state l now ≡ state.Broken)) × (g ≡ kept_id l)
IsRenewedOnceBroken l (Change g p) now = ⊥
IsRenewedOnceBroken l (Release g) now = ⊥
IsRenewedOnceBroken l (Break b) now = ⊥

-- any action but an acquire where there is no lease, and a change also where the lease holds no more
abbrev pub IsNotPresent : Lease → LeaseAction → ℕ → Type 0
IsNotPresent l (Acquire p secs) now = ⊥
IsNotPresent l (Renew g) now = lease_state l now ≡ state.Available
IsNotPresent l (Change g p) now = ¬ Holds l now
IsNotPresent l (Release g) now = lease_state l now ≡ state.Available
IsNotPresent l (Break b) now = lease_state l now ≡ state.Available

-- a renewal or a release of a lease under another id than the kept one, and a change of one that holds where neither
-- id is the kept one, or the given one isn't while it is breaking
abbrev pub IsIdMismatch : Lease → LeaseAction → ℕ → Type 0
IsIdMismatch l (Acquire p secs) now = ⊥
IsIdMismatch l (Renew g) now = (lease_state l now ≢ state.Available) × (g ≢ kept_id l)
IsIdMismatch l (Change g p) now =
    ((lease_state l now ≡ state.Leased) × (g ≢ kept_id l) × (p ≢ kept_id l)) ⊎ ((lease_state l now ≡ state.Breaking) × (g ≢ kept_id l))
IsIdMismatch l (Release g) now = (lease_state l now ≢ state.Available) × (g ≢ kept_id l)
IsIdMismatch l (Break b) now = ⊥
