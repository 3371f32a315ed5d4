-- What holds between two rounds of a submit.
use Rattle.std.specs.Prelude.{◌≡◌, ℕ, ◌*◌, ◌<◌, ◌≤◌, List, length, slice_get, Some}
use Rattle.lock_core.specs.declared.object.LockMode.{LockMode}
use Rattle.lock_core.specs.declared.object.LockMode.TheVariants as mode
use Rattle.inode_tree.specs.declared.placed.Placed.{Placed}
use Rattle.inode_tree.specs.Stripes.{StripeRecord}
use Rattle.path_locks.specs.Plans.{wide_of}
use Rattle.path_locks.specs.Views.{HeldView, TableView, IsHeldBy, IsSameSeat}
use Rattle.striped_store.specs.Views.{seen_by, made_by, FindsOneJournal, IsOf}
use Rattle.parted_namespace.specs.Opening.{bare_stripe}
use Rattle.parted_namespace.specs.Namespace.{namespace}
use Rattle.service_workers.specs.Looks.{NamespacePass}

-- the plan holds no stripe from this one on
abbrev pub IsAboveAll : ℕ → List LockMode → Type 0
IsAboveAll stripe plan = (k : ℕ) → stripe ≤ k → k < 64 → slice_get plan k ≡ Some mode.None

-- what is held is the plan, and as wide as it
pub record IsPlan (held : HeldView StripeRecord) (plan : List LockMode) : Type 0 where
  pub modes : held.modes ≡ plan
  pub long : length plan ≡ 64
  pub wide : held.wide ≡ wide_of plan

module _ {K : Type 0} where
  -- a pass of the store that holds something else than before, and has found one journal; it has made no entry and has seen no more
  pub record IsHolding (store : TableView Placed) (old new : NamespacePass K) (held : HeldView StripeRecord) (plan : List LockMode) : Type 0 where
    pub own : IsOf store new
    pub same : IsSameSeat old.seat new.seat
    pub holds : IsHeldBy bare_stripe new.seat held
    pub found : FindsOneJournal namespace new
    pub planned : IsPlan held plan
    pub seen : seen_by new ≡ seen_by old
    pub mine : made_by new ≡ made_by old
    pub last : new.wide ≡ old.wide

  -- the same after so many rounds, each of which has made the plan wider by 1 or 2
  pub record IsRound (store : TableView Placed) (old new : NamespacePass K) (held : HeldView StripeRecord) (plan : List LockMode) (rounds : ℕ) : Type 0 where
    pub holding : IsHolding store old new held plan
    pub least : rounds ≤ wide_of plan
    pub most : wide_of plan ≤ 2 * rounds
