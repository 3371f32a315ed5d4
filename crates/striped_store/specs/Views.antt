-- What a contract sees of a store and of its passes. Of a store it sees its table of locks.
use Rattle.std.specs.Prelude.{◌≡◌, ◌≢◌, ℕ, List, [], length, slice_get}
use Rattle.std.specs.Prelude as std
use Rattle.lock_core.specs.declared.object.LockMode.{LockMode}
use Rattle.lock_core.specs.declared.object.LockMode.TheVariants as mode
use Rattle.lock_core.specs.Object.{Object, by_pass}
use Rattle.lock_core.specs.Machine.{hold_at, note_of, notes}
use Rattle.commit_journal.specs.Journal.{JournalView}
use Rattle.path_locks.specs.Stands.{Stands}
use Rattle.path_locks.specs.Views.{SeatView, HeldView, TableView, number_of, seen_of, mine_of, taken_of, tape_of, HoldsNothing}
use Rattle.path_locks.specs.Alike.{limits_of}
use mathlib.Core.Option.{Option}

-- a pass: its seat at the store's table of locks, and how wide that was which it last handed to a commit that succeeded
pub record PassView (T E K : Type 0) : Type 0 where
  pub seat : SeatView T E K
  pub wide : ℕ

-- the stripe is held, in whatever mode
abbrev pub IsHeld : {T : Type 0} → HeldView T → ℕ → Type 0
IsHeld held k = (m : LockMode) × (slice_get held.modes k ≡ std.Some m) × (m ≢ mode.None)

module _ {T E K : Type 0} where
  -- the number of a pass, the journal as far as the pass knows it, and the pass's own entries in their order
  abbrev pub number_of_pass : PassView T E K → ℕ
  number_of_pass p = number_of p.seat

  abbrev pub seen_by : PassView T E K → List E
  seen_by p = seen_of p.seat

  abbrev pub made_by : PassView T E K → List E
  made_by p = mine_of p.seat

  -- the keeper's count when the pass last took the journal, and when it last gave it back
  abbrev pub taken_by : PassView T E K → ℕ
  taken_by p = taken_of p.seat

  abbrev pub tape_by : PassView T E K → ℕ
  tape_by p = tape_of p.seat

  -- the part that the pass found in a stripe that it holds
  abbrev pub found_by : PassView T E K → ℕ → Option T
  found_by p k = note_of (hold_at p.seat.me.0.at.holds k)

  -- the journal as far as a seat knows it, with its limits
  abbrev pub journal_seen : SeatView T E K → JournalView E
  journal_seen s = record { entries = seen_of s; limits = limits_of s; spare = 0 }

  -- the pass is one of the store
  abbrev pub IsOf : TableView E → PassView T E K → Type 0
  IsOf store p = p.seat.table ≡ store.id

  -- the pass is as the start of its store makes it: it has this number, knows of no entry, and holds nothing
  pub record IsNewPass (store : TableView E) (n : ℕ) (p : PassView T E K) : Type 0 where
    pub own : IsOf store p
    pub number : number_of_pass p ≡ n
    pub seen : seen_by p ≡ []
    pub mine : made_by p ≡ []
    pub limits : limits_of p.seat ≡ store.limits
    pub wide : p.wide ≡ 0
    pub taken : taken_by p ≡ store.faults
    pub tape : tape_by p ≡ store.faults
    pub nothing : HoldsNothing p.seat

  -- the same of a store that starts with a journal: the pass has seen it, and its entries of it are its own
  pub record IsOpenPass {R : Type 0} (o : Object T E R) (store : TableView E) (n : ℕ) (p : PassView T E K) : Type 0 where
    pub own : IsOf store p
    pub number : number_of_pass p ≡ n
    pub seen : seen_by p ≡ store.opening
    pub mine : made_by p ≡ by_pass o n store.opening
    pub limits : limits_of p.seat ≡ store.limits
    pub wide : p.wide ≡ 0
    pub taken : taken_by p ≡ store.faults
    pub tape : tape_by p ≡ store.faults
    pub nothing : HoldsNothing p.seat

  abbrev pub AreOpenPasses : {R : Type 0} → Object T E R → TableView E → List (PassView T E K) → Type 0
  AreOpenPasses o store passes = (k : ℕ) (p : PassView T E K) → slice_get passes k ≡ std.Some p → IsOpenPass o store k p

  -- the passes of a store at its start, in the order of their numbers
  abbrev pub AreNewPasses : TableView E → List (PassView T E K) → Type 0
  AreNewPasses store passes = (k : ℕ) (p : PassView T E K) → slice_get passes k ≡ std.Some p → IsNewPass store k p

module _ {T E R K : Type 0} (o : Object T E R) where
  -- what the pass has found: its parts, and for a stripe where it has found none the part at the start
  abbrev pub parts_found : PassView T E K → List T
  parts_found p = notes o p.seat.me.0.at

  -- what the pass has found is, on the stripes that it holds, the replay of one journal: a list that begins with what the pass
  -- has seen, has the pass's own entries and no others by it, and in which each entry fits
  abbrev pub FindsOneJournal : PassView T E K → Type 0
  FindsOneJournal p = Stands o p.seat.me.0.at
