-- A service and its passes, that hold nothing.
use Rattle.std.specs.Prelude.{◌≡◌, ℕ, List, length, slice_get}
use Rattle.std.specs.Prelude as std
use Rattle.path_locks.specs.Views.{TableView, HoldsNothing}
use Rattle.striped_store.specs.Views.{PassView, number_of_pass, IsOf}

module _ {T E K : Type 0} where
  -- a pass of the store with this number, which holds nothing
  pub record IsIdlePass (store : TableView E) (n : ℕ) (p : PassView T E K) : Type 0 where
    pub own : IsOf store p
    pub number : number_of_pass p ≡ n
    pub nothing : HoldsNothing p.seat

  -- passes that hold nothing, in the order of their numbers
  abbrev pub AreIdlePasses : TableView E → List (PassView T E K) → Type 0
  AreIdlePasses store passes = (k : ℕ) (p : PassView T E K) → slice_get passes k ≡ std.Some p → IsIdlePass store k p

  -- these are all passes of the store
  pub record IsTeam (store : TableView E) (passes : List (PassView T E K)) : Type 0 where
    pub many : length passes ≡ store.seats
    pub idle : AreIdlePasses store passes
