-- What an acquire leaves and what calls but release and break keep.
use Rattle.std.proofs.Common.{◌≡◌, ◌⊎◌, ℕ, Bool, true, false, cond, ◌==◌, ◌||◌, is_ok, List, [], ◌∷◌, Option, None, Result, Ok, Err, inl, inr, refl, subst}
use Rattle.std.specs.Result.{result_unwrap_or}
use Rattle.std.specs.List.{AllByRecursion}
use Rattle.lease_state.specs.declared.lease.Lease.{Lease}
use Rattle.lease_state.specs.declared.lease.Lease.TheVariants as lease
use Rattle.lease_state.specs.declared.lease.State.{State}
use Rattle.lease_state.specs.declared.lease.State.TheVariants as state
use Rattle.lease_state.specs.declared.lease.LeaseFault.{LeaseFault}
use Rattle.lease_state.specs.declared.lease.LeaseFault.TheVariants.{LeaseAlreadyPresent, LeaseIdMismatchWithLeaseOperation, LeaseIsBreakingAndCannotBeAcquired, LeaseIsBreakingAndCannotBeChanged, LeaseIsBrokenAndCannotBeRenewed}
use Rattle.lease_state.specs.declared.lease.LeaseAction.TheVariants.{Acquire, Renew, Change, Release, Break}
use Rattle.lease_state.specs.LeaseTable.{end_from, leased_from, acquired, renewed, changed, lease_state, lease_may_write, left_by_write, lease_after_write, kept_id, kept_secs, kept_end}
use Rattle.lease_state.specs.LeaseLaws.{LeaseCall, Acts, Writes, after_call, after_calls, IsLeased, IsNoReleaseOrBreak, IsKeepingAction, IsKeptSinceAcquire}

-- leased, or nothing is kept
abbrev IsUnbroken : Lease → Type 0
IsUnbroken l = IsLeased l ⊎ (l ≡ lease.Available)

-- what a property of leases needs of a test's two outcomes
either : (P : Lease → Type 0) (b : Bool) (x y : Result Lease LeaseFault) (l : Lease)
    → P (result_unwrap_or x l) → P (result_unwrap_or y l) → P (result_unwrap_or (cond b x y) l)
either P true x y l p q = p
either P false x y l p q = q

either_lease : (P : Lease → Type 0) (b : Bool) (x y : Lease) → P x → P y → P (cond b x y)
either_lease P true x y p q = p
either_lease P false x y p q = q

-- each action that passes leaves a leased lease, so P of each leased lease and of the one before is P of the one after
at_acquire : (P : Lease → Type 0) → ((id : ℕ) (secs : Option ℕ) (until : ℕ) → P (lease.Leased id secs until))
    → (s : State) (k p : ℕ) (secs : Option ℕ) (now : ℕ) (l : Lease) → P l → P (result_unwrap_or (acquired s k p secs now) l)
at_acquire P leased state.Available k p secs now l h = leased p secs (end_from secs now)
at_acquire P leased state.Leased k p secs now l h =
    either P (p == k) (Ok (leased_from p secs now)) (Err LeaseAlreadyPresent) l (leased p secs (end_from secs now)) h
at_acquire P leased state.Expired k p secs now l h = leased p secs (end_from secs now)
at_acquire P leased state.Breaking k p secs now l h =
    either P (p == k) (Err LeaseIsBreakingAndCannotBeAcquired) (Err LeaseAlreadyPresent) l h h
at_acquire P leased state.Broken k p secs now l h = leased p secs (end_from secs now)

at_renew : (P : Lease → Type 0) → ((id : ℕ) (secs : Option ℕ) (until : ℕ) → P (lease.Leased id secs until))
    → (s : State) (k g : ℕ) (secs : Option ℕ) (now : ℕ) (l : Lease) → P l → P (result_unwrap_or (renewed s k g secs now) l)
at_renew P leased state.Available k g secs now l h = h
at_renew P leased state.Leased k g secs now l h =
    either P (g == k) (Ok (leased_from k secs now)) (Err LeaseIdMismatchWithLeaseOperation) l (leased k secs (end_from secs now)) h
at_renew P leased state.Expired k g secs now l h =
    either P (g == k) (Ok (leased_from k secs now)) (Err LeaseIdMismatchWithLeaseOperation) l (leased k secs (end_from secs now)) h
at_renew P leased state.Breaking k g secs now l h =
    either P (g == k) (Err LeaseIsBrokenAndCannotBeRenewed) (Err LeaseIdMismatchWithLeaseOperation) l h h
at_renew P leased state.Broken k g secs now l h =
    either P (g == k) (Err LeaseIsBrokenAndCannotBeRenewed) (Err LeaseIdMismatchWithLeaseOperation) l h h

at_change : (P : Lease → Type 0) → ((id : ℕ) (secs : Option ℕ) (until : ℕ) → P (lease.Leased id secs until))
    → (s : State) (k g p : ℕ) (secs : Option ℕ) (until : ℕ) (l : Lease) → P l → P (result_unwrap_or (changed s k g p secs until) l)
at_change P leased state.Available k g p secs until l h = h
at_change P leased state.Leased k g p secs until l h =
    either P ((g == k) || (p == k)) (Ok (lease.Leased p secs until)) (Err LeaseIdMismatchWithLeaseOperation) l (leased p secs until) h
at_change P leased state.Expired k g p secs until l h = h
at_change P leased state.Breaking k g p secs until l h =
    either P (g == k) (Err LeaseIsBreakingAndCannotBeChanged) (Err LeaseIdMismatchWithLeaseOperation) l h h
at_change P leased state.Broken k g p secs until l h = h

at_write : (s : State) (l : Lease) → IsUnbroken l → IsUnbroken (left_by_write s l)
at_write state.Available l h = h
at_write state.Leased l h = h
at_write state.Expired l h = inr refl
at_write state.Breaking l h = h
at_write state.Broken l h = h

unbroken_by_call : (call : LeaseCall) (l : Lease) → IsNoReleaseOrBreak call → IsUnbroken l → IsUnbroken (after_call call l)
unbroken_by_call (Acts (Acquire p secs) now) l no_end h = at_acquire IsUnbroken (λ _ _ _. inl tt) (lease_state l now) (kept_id l) p secs now l h
unbroken_by_call (Acts (Renew g) now) l no_end h = at_renew IsUnbroken (λ _ _ _. inl tt) (lease_state l now) (kept_id l) g (kept_secs l) now l h
unbroken_by_call (Acts (Change g p) now) l no_end h = at_change IsUnbroken (λ _ _ _. inl tt) (lease_state l now) (kept_id l) g p (kept_secs l) (kept_end l) l h
unbroken_by_call (Acts (Release g) now) l no_end h = absurd no_end
unbroken_by_call (Acts (Break b) now) l no_end h = absurd no_end
unbroken_by_call (Writes given now) l no_end h =
    either_lease IsUnbroken (is_ok (lease_may_write l given now)) (lease_after_write l now) l (at_write (lease_state l now) l h) h

leased_by_call : (call : LeaseCall) (l : Lease) → IsKeepingAction call → IsLeased l → IsLeased (after_call call l)
leased_by_call (Acts (Acquire p secs) now) l no_end h = at_acquire IsLeased (λ _ _ _. tt) (lease_state l now) (kept_id l) p secs now l h
leased_by_call (Acts (Renew g) now) l no_end h = at_renew IsLeased (λ _ _ _. tt) (lease_state l now) (kept_id l) g (kept_secs l) now l h
leased_by_call (Acts (Change g p) now) l no_end h = at_change IsLeased (λ _ _ _. tt) (lease_state l now) (kept_id l) g p (kept_secs l) (kept_end l) l h
leased_by_call (Acts (Release g) now) l no_end h = absurd no_end
leased_by_call (Acts (Break b) now) l no_end h = absurd no_end
leased_by_call (Writes given now) l no_end h = absurd no_end

unbroken_by_calls : (calls : List LeaseCall) (l : Lease) → AllByRecursion IsNoReleaseOrBreak calls → IsUnbroken l → IsUnbroken (after_calls calls l)
unbroken_by_calls [] l others h = h
unbroken_by_calls (call ∷ calls) l others h = unbroken_by_calls calls (after_call call l) others.1 (unbroken_by_call call l others.0 h)

leased_by_calls : (calls : List LeaseCall) (l : Lease) → AllByRecursion IsKeepingAction calls → IsLeased l → IsLeased (after_calls calls l)
leased_by_calls [] l others h = h
leased_by_calls (call ∷ calls) l others h = leased_by_calls calls (after_call call l) others.1 (leased_by_call call l others.0 h)

-- an acquire that passes leaves a leased lease
by_acquire : (s : State) (k p : ℕ) (secs : Option ℕ) (now : ℕ) (l : Lease) → acquired s k p secs now ≡ Ok l → IsLeased l
by_acquire s k p secs now l e =
    let P : Result Lease LeaseFault → Type 0 = λ r. IsLeased (result_unwrap_or r (lease.Leased 0 None 0)) in
    subst P e (at_acquire IsLeased (λ _ _ _. tt) s k p secs now (lease.Leased 0 None 0) tt)

pub leased_since_acquire : (kept : Lease) → IsKeptSinceAcquire IsKeepingAction kept → IsLeased kept
leased_since_acquire kept since =
    subst IsLeased since.left (leased_by_calls since.calls since.first since.such
    (by_acquire (lease_state since.before since.moment) (kept_id since.before) since.id since.secs since.moment since.first since.acquired))

pub unbroken_since_acquire : (kept : Lease) → IsKeptSinceAcquire IsNoReleaseOrBreak kept → IsLeased kept ⊎ (kept ≡ lease.Available)
unbroken_since_acquire kept since =
    subst IsUnbroken since.left (unbroken_by_calls since.calls since.first since.such
    (inl (by_acquire (lease_state since.before since.moment) (kept_id since.before) since.id since.secs since.moment since.first since.acquired)))
