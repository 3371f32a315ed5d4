-- The words of the laws above the table of leases: what a run of calls leaves, and what it is to keep a writer out.
use Rattle.std.specs.Prelude.{◌≡◌, ℕ, ◌≤◌, List, [], ◌∷◌, Option, Some, None, Ok, is_ok, if◌then◌else◌}
use Rattle.std.specs.Result.{result_unwrap_or}
use Rattle.std.specs.List.{AllByRecursion}
use Rattle.lease_state.specs.declared.lease.Lease.{Lease}
use Rattle.lease_state.specs.declared.lease.Lease.TheVariants as lease
use Rattle.lease_state.specs.declared.lease.LeaseAction.{LeaseAction}
use Rattle.lease_state.specs.declared.lease.LeaseAction.TheVariants.{Acquire, Renew, Change, Release, Break}
use Rattle.lease_state.specs.LeaseTable.{lease_act, lease_may_write, lease_after_write}

-- a call on a lease at a moment: an action, or a write with the id given or without one
pub data LeaseCall : Type 0 where
  Acts : LeaseAction → ℕ → LeaseCall
  Writes : Option ℕ → ℕ → LeaseCall

-- a write passes
abbrev pub WritePasses : Lease → Option ℕ → ℕ → Type 0
WritePasses l given now = lease_may_write l given now ≡ Ok tt

-- the lease after a call: a refused call leaves it as it was
abbrev pub after_call : LeaseCall → Lease → Lease
after_call (Acts action now) l = result_unwrap_or (lease_act l action now) l
after_call (Writes given now) l = if is_ok (lease_may_write l given now) then lease_after_write l now else l

-- the lease after calls, the first of them first
abbrev pub after_calls : List LeaseCall → Lease → Lease
after_calls [] l = l
after_calls (call ∷ calls) l = after_calls calls (after_call call l)

-- a call that is neither a release nor a break
abbrev pub IsNoReleaseOrBreak : LeaseCall → Type 0
IsNoReleaseOrBreak (Acts (Acquire p secs) now) = Unit {0}
IsNoReleaseOrBreak (Acts (Renew g) now) = Unit {0}
IsNoReleaseOrBreak (Acts (Change g p) now) = Unit {0}
IsNoReleaseOrBreak (Acts (Release g) now) = ⊥
IsNoReleaseOrBreak (Acts (Break b) now) = ⊥
IsNoReleaseOrBreak (Writes given now) = Unit {0}

-- an action that is neither a release nor a break
abbrev pub IsKeepingAction : LeaseCall → Type 0
IsKeepingAction (Acts action now) = IsNoReleaseOrBreak (Acts action now)
IsKeepingAction (Writes given now) = ⊥

-- the lease is what an acquire that passed left, after calls that are all such as P says, whatever their moments
pub record IsKeptSinceAcquire (P : LeaseCall → Type 0) (kept : Lease) : Type 0 where
  pub before : Lease
  pub first : Lease
  pub id : ℕ
  pub secs : Option ℕ
  pub moment : ℕ
  pub calls : List LeaseCall
  pub acquired : lease_act before (Acquire id secs) moment ≡ Ok first
  pub such : AllByRecursion P calls
  pub left : after_calls calls first ≡ kept

-- the lease is leased in what is kept of it, whether or not its end has come
abbrev pub IsLeased : Lease → Type 0
IsLeased lease.Available = ⊥
IsLeased (lease.Leased id secs until) = Unit {0}
IsLeased (lease.Breaking id until) = ⊥
IsLeased (lease.Broken id) = ⊥

-- a leased lease with an end, or a breaking one, became broken, or breaking with an end that isn't later; its id stays
abbrev pub EndsNoLater : Lease → Lease → Type 0
EndsNoLater (lease.Breaking id until) (lease.Breaking id' until') = (id' ≡ id) × (until' ≤ until)
EndsNoLater (lease.Breaking id until) (lease.Broken id') = id' ≡ id
EndsNoLater (lease.Breaking id until) lease.Available = ⊥
EndsNoLater (lease.Breaking id until) (lease.Leased id' secs' until') = ⊥
EndsNoLater (lease.Leased id (Some secs) until) (lease.Breaking id' until') = (id' ≡ id) × (until' ≤ until)
EndsNoLater (lease.Leased id (Some secs) until) (lease.Broken id') = id' ≡ id
EndsNoLater (lease.Leased id (Some secs) until) lease.Available = ⊥
EndsNoLater (lease.Leased id (Some secs) until) (lease.Leased id' secs' until') = ⊥
EndsNoLater (lease.Leased id None until) next = ⊥
EndsNoLater lease.Available next = ⊥
EndsNoLater (lease.Broken id) next = ⊥
