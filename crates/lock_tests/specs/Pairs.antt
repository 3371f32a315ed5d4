-- Two passes of a store, and two seats of a table, that hold nothing.
use Rattle.std.specs.Prelude.{◌≡◌, ℕ, List, [], slice_get}
use Rattle.std.specs.Prelude as std
use Rattle.path_locks.specs.Views.{SeatView, TableView, number_of, HoldsNothing}
use Rattle.striped_store.specs.Views.{PassView, number_of_pass, IsOf}

module _ {T E K : Type 0} where
  -- a pass of the store with this number, which holds nothing
  pub record IsIdlePass (store : TableView E) (n : ℕ) (p : PassView T E K) : Type 0 where
    pub own : IsOf store p
    pub number : number_of_pass p ≡ n
    pub nothing : HoldsNothing p.seat

  -- passes that hold nothing, in the order of their numbers
  abbrev pub AreIdlePasses : TableView E → List (PassView T E K) → Type 0
  AreIdlePasses store passes = (k : ℕ) (p : PassView T E K) → slice_get passes k ≡ std.Some p → IsIdlePass store k p

  -- these are the two passes of the store, and no others are left
  pub record AreBothPasses (store : TableView E) (left : List (PassView T E K)) (first second : PassView T E K) : Type 0 where
    pub two : store.seats ≡ 2
    pub none : left ≡ []
    pub first_is : IsIdlePass store 0 first
    pub second_is : IsIdlePass store 1 second

  -- this is the one pass of the store, and no other is left
  pub record IsOnlyPass (store : TableView E) (left : List (PassView T E K)) (pass : PassView T E K) : Type 0 where
    pub one : store.seats ≡ 1
    pub none : left ≡ []
    pub pass_is : IsIdlePass store 0 pass

  -- a seat of the table with this number, which holds nothing
  pub record IsIdleSeat (table : TableView E) (n : ℕ) (s : SeatView T E K) : Type 0 where
    pub own : s.table ≡ table.id
    pub number : number_of s ≡ n
    pub nothing : HoldsNothing s

  -- these are the two seats of the table, and no others are left
  pub record AreBothSeats (table : TableView E) (left : List (SeatView T E K)) (first second : SeatView T E K) : Type 0 where
    pub two : table.seats ≡ 2
    pub none : left ≡ []
    pub first_is : IsIdleSeat table 0 first
    pub second_is : IsIdleSeat table 1 second
