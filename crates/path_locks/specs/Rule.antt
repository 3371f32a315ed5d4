-- The rule of a running table of locks.
use Rattle.std.specs.Prelude.{◌≡◌, ℕ, ◌<◌, ◌≤◌, true, List, [], ◌∷◌, ◌++◌, map, length, slice_index}
use Rattle.lock_core.specs.Object.{Object}
use Rattle.lock_core.specs.Machine.{LockState, newcomer}
use Rattle.lock_core.specs.Sound.{StartsWith, IsSound}
use Rattle.commit_journal.specs.Journal.{JournalView}
use Rattle.commit_journal.specs.Keeper.{Told, AreKept}
use Rattle.atomic_table.specs.Table.{State}
use Rattle.path_locks.specs.declared.rule.Slot.{Slot}
use Rattle.path_locks.specs.declared.rule.Slot.TheVariants.{Empty, Part, Book}
use Rattle.path_locks.specs.declared.rule.View.{View}
use Rattle.path_locks.specs.declared.rule.Opening.{Opening}
use mathlib.Core.Option.{Option, none, some}
use lib.ListN.{get_elem?}

-- the place of a part, as its slot shows it: out with a seat, or home with a part without what a reserve keeps ready
abbrev pub home_of : {T E K : Type 0} → (T → T) → Option (Option (Slot T E K)) → Option (Option T)
home_of bare none = none
home_of bare (some none) = some none
home_of bare (some (some Empty)) = none
home_of bare (some (some (Part y))) = some (some (bare y))
home_of bare (some (some (Book j k))) = none

-- the slots of the 64 stripes show the places of the parts
abbrev pub IsPlaced : {T E K : Type 0} → (T → T) → List (Option (Slot T E K)) → List (Option T) → Type 0
IsPlaced bare slots homes = (k : ℕ) → k < 64 → home_of bare (get_elem? slots k) ≡ get_elem? homes k

-- the journal's slot, with the keeper, while nobody has the journal
pub record IsBook {T E K : Type 0} (key : Opening E K) (entries : List E) (slot : Option (Option (Slot T E K))) : Type 0 where
  pub book : JournalView E
  pub keeper : K
  pub there : slot ≡ some (some (Book book keeper))
  pub entries_are : book.entries ≡ entries
  pub limits_are : book.limits ≡ key.journal.value.limits

-- a table has the words, the homes, the journal and the seats of a machine
pub record Shows {T E R K : Type 0} (bare : T → T) (key : Opening E K) (s : State (Slot T E K) (View T E)) (m : LockState T E R) : Type 0 where
  pub words : s.words ≡ m.words
  pub seats : map (λ (v : View T E). v.at) s.views ≡ m.seats
  pub slots : length s.homes ≡ 65
  pub places : IsPlaced bare s.homes m.homes
  pub book : slice_index m.words 128 ≡ 0 → IsBook key m.journal (get_elem? s.homes 64)
  pub away : slice_index m.words 128 ≡ 1 → get_elem? s.homes 64 ≡ some none

-- what a live seat knows beside the machine: the limits, and what it had seen before each join
pub record ViewOk {T E K : Type 0} (key : Opening E K) (h : List E) (v : View T E) : Type 0 where
  pub limits : v.limits ≡ key.journal.value.limits
  pub before : (i : ℕ) (seen : List E) → get_elem? v.before i ≡ some seen → StartsWith h seen

-- the views: no more seats than the table is for, the first one counts them, and each live one is right
pub record AreViews {T E K : Type 0} (key : Opening E K) (h : List E) (views : List (View T E)) : Type 0 where
  pub few : length views ≤ key.seats
  pub counted : (j : ℕ) (v : View T E) → get_elem? views j ≡ some v → 0 < v.made → (j ≡ 0) × (v.made ≡ length views)
  pub each : (j : ℕ) (v : View T E) → get_elem? views j ≡ some v → v.at.live ≡ true → ViewOk key h v

-- the keeper and its count: where it lies in the journal's slot, what it tells is the journal beside it, and its count is this one,
-- which no live seat's is above; a seat that has the journal took it with this count
pub record IsKept {T E K : Type 0} (tells : K → Told E) (s : State (Slot T E K) (View T E)) : Type 0 where
  pub count : ℕ
  pub counted : (j : JournalView E) (k : K) → get_elem? s.homes 64 ≡ some (some (Book j k)) → (tells k).faults ≡ count
  pub kept : (j : JournalView E) (k : K) → get_elem? s.homes 64 ≡ some (some (Book j k)) → AreKept (tells k).kept j.entries
  pub below : (i : ℕ) (v : View T E) → get_elem? s.views i ≡ some v → v.at.live ≡ true → v.tape ≤ count
  pub had : (i : ℕ) (v : View T E) → get_elem? s.views i ≡ some v → v.at.journal ≡ true → v.taken ≡ count

-- some state of the lock machine has these words, these homes and these seats, and it is sound
abbrev pub Ruled : {T E R K : Type 0} → Object T E R → (T → T) → (K → Told E) → Opening E K → State (Slot T E K) (View T E) → Type 0
Ruled {T} {E} {R} {K} o bare tells key s = (m : LockState T E R) × Shows bare key s m × AreViews key m.journal s.views × IsSound o key.journal.value.entries m × IsKept tells s

abbrev pub in_slot : {T E K : Type 0} → T → Slot T E K
in_slot p = Part p

-- the slots at the start: the parts, and behind them the journal
abbrev pub shelf : {T E K : Type 0} → List T → JournalView E → K → List (Slot T E K)
shelf {T} {E} {K} parts book keeper = map (in_slot {T = T} {E = E} {K = K}) parts ++ Book book keeper ∷ []

-- the first seat has seen the journal at the start
abbrev pub first_view : {T E R K : Type 0} → Object T E R → (K → Told E) → Opening E K → View T E
first_view o tells key = record {
  at = newcomer o 0 key.journal.value.entries;
  before = [];
  made = 1;
  limits = key.journal.value.limits;
  taken = (tells key.keeper.value).faults;
  tape = (tells key.keeper.value).faults;
}
