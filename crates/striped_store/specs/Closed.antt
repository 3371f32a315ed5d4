-- The end of a store.
use Rattle.std.specs.Prelude.{◌≡◌, ℕ, ◌<◌, List, length, slice_get}
use Rattle.std.specs.Prelude as std
use Rattle.lock_core.specs.Object.{Object, by_pass}
use Rattle.lock_core.specs.Sound.{StartsWith}
use Rattle.path_locks.specs.Views.{TableView, HoldsNothing}
use Rattle.striped_store.specs.Views.{PassView, number_of_pass, seen_by, made_by, IsOf}

module _ {T E K : Type 0} where
  -- these are all passes of the store, one of each number, and each holds nothing
  pub record AreEveryPass (store : TableView E) (passes : List (PassView T E K)) : Type 0 where
    pub many : length passes ≡ store.seats
    pub own : (k : ℕ) (p : PassView T E K) → slice_get passes k ≡ std.Some p → IsOf store p
    pub nothing : (k : ℕ) (p : PassView T E K) → slice_get passes k ≡ std.Some p → HoldsNothing p.seat
    pub every : (n : ℕ) → n < store.seats → (k : ℕ) × (p : PassView T E K) × (slice_get passes k ≡ std.Some p) × (number_of_pass p ≡ n)

module _ {T E R K : Type 0} (o : Object T E R) (h : List E) where
  -- each pass has seen a beginning of the journal, and its own entries are those of the journal by it
  pub record IsOfPass (p : PassView T E K) : Type 0 where
    pub seen : StartsWith h (seen_by p)
    pub mine : made_by p ≡ by_pass o (number_of_pass p) h

  -- each entry of the journal is by one of the passes
  abbrev pub AreByPasses : List (PassView T E K) → Type 0
  AreByPasses passes = (n : ℕ) (e : E) → slice_get h n ≡ std.Some e → (k : ℕ) × (p : PassView T E K) × (slice_get passes k ≡ std.Some p) × (o.by e ≡ number_of_pass p)
