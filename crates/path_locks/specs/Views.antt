-- What a contract sees of seats, of what they hold, and of the table.
use Rattle.std.specs.Prelude.{◌≡◌, ℕ, ◌<◌, Bool, true, false, List, [], ◌∷◌, replicate, length, slice_get}
use Rattle.std.specs.Prelude as std
use Rattle.lock_core.specs.declared.object.LockMode.{LockMode}
use Rattle.lock_core.specs.declared.machine.Known.{Known}
use Rattle.lock_core.specs.Object.{Object, by_pass}
use Rattle.lock_core.specs.Sound.{StartsWith}
use Rattle.lock_core.specs.Machine.{IsIdle}
use Rattle.commit_journal.specs.Limits.{LimitNumbers}
use Rattle.commit_journal.specs.Journal.{JournalView}
use Rattle.commit_journal.specs.Keeper.{Told}
use Rattle.atomic_table.specs.Table.{Me}
use Rattle.atomic_table.specs.Seated.{TableId}
use Rattle.path_locks.specs.declared.rule.Slot.{Slot}
use Rattle.path_locks.specs.declared.rule.Slot.TheVariants.{Empty, Part, Book}
use Rattle.path_locks.specs.declared.rule.View.{View}
use Rattle.path_locks.specs.declared.rule.Opening.{Opening}
use Rattle.path_locks.specs.Holding.{AreOut, empties}
use Rattle.path_locks.specs.Plans.{AreHeld}
use mathlib.Core.Option.{some}
use lib.ListN.{get_elem?}

-- a seat: its table, its place there, what it knows with its slots in hand, and places for 64 parts while it holds none
pub record SeatView (T E K : Type 0) : Type 0 where
  pub table : TableId
  pub id : ℕ
  pub me : Me (Slot T E K) (View T E)
  pub room : List (std.Option T)

-- what is held: the mode of each stripe, the parts of those held exclusively, and how wide it was when it was taken
pub record HeldView (T : Type 0) : Type 0 where
  pub modes : List LockMode
  pub parts : List (std.Option T)
  pub wide : ℕ

-- a table: which one it is, the journal at its start, the limits of the journal, how many seats it was started with, and the count
-- of the keeper at its start
pub record TableView (E : Type 0) : Type 0 where
  pub id : TableId
  pub opening : List E
  pub limits : LimitNumbers
  pub seats : ℕ
  pub faults : ℕ

module _ {T E K : Type 0} where
  -- the number of a seat, the beginning of the journal that it saw, and its own entries
  abbrev pub number_of : SeatView T E K → ℕ
  number_of s = s.me.0.at.number

  abbrev pub seen_of : SeatView T E K → List E
  seen_of s = s.me.0.at.seen

  abbrev pub mine_of : SeatView T E K → List E
  mine_of s = s.me.0.at.mine

  -- the seat holds nothing
  pub record HoldsNothing (s : SeatView T E K) : Type 0 where
    pub idle : IsIdle s.me.0.at
    pub no_slot : s.me.1 ≡ []
    pub room : s.room ≡ replicate 64 std.None

  -- the seat has the journal
  abbrev pub has_journal : SeatView T E K → Bool
  has_journal s = s.me.0.at.journal

  -- the slots in hand: of the stripes held exclusively, and before them the journal's while the seat has the journal
  abbrev pub with_book : Bool → List (ℕ × Slot T E K) → List (ℕ × Slot T E K)
  with_book true hand = (64, Empty) ∷ hand
  with_book false hand = hand

  -- what is held is held by the seat: each stripe in its mode, with the parts of those held exclusively
  pub record IsHeldBy (bare : T → T) (s : SeatView T E K) (h : HeldView T) : Type 0 where
    pub no_latch : s.me.0.at.latch ≡ std.None
    pub modes : AreHeld h.modes 64 s.me.0.at.holds
    pub slots : s.me.1 ≡ with_book (has_journal s) (empties 64 s.me.0.at.holds)
    pub long : length h.parts ≡ 64
    pub parts : AreOut bare s.me.0.at.holds h.parts

  -- the same seat, whatever it holds and knows of the journal
  pub record IsSameSeat (s t : SeatView T E K) : Type 0 where
    pub table : t.table ≡ s.table
    pub place : t.id ≡ s.id
    pub number : number_of t ≡ number_of s
    pub olds : t.me.0.at.olds ≡ s.me.0.at.olds
    pub before : t.me.0.before ≡ s.me.0.before
    pub made : t.me.0.made ≡ s.me.0.made
    pub limits : t.me.0.limits ≡ s.me.0.limits
    pub taken : t.me.0.taken ≡ s.me.0.taken
    pub tape : t.me.0.tape ≡ s.me.0.tape

  -- the same seat, but for the counts that it knows
  pub record IsSeatAgain (s t : SeatView T E K) : Type 0 where
    pub table : t.table ≡ s.table
    pub place : t.id ≡ s.id
    pub number : number_of t ≡ number_of s
    pub olds : t.me.0.at.olds ≡ s.me.0.at.olds
    pub before : t.me.0.before ≡ s.me.0.before
    pub made : t.me.0.made ≡ s.me.0.made
    pub limits : t.me.0.limits ≡ s.me.0.limits

  -- the keeper's count when the seat last took the journal, and when it last gave it back
  abbrev pub taken_of : SeatView T E K → ℕ
  taken_of s = s.me.0.taken

  abbrev pub tape_of : SeatView T E K → ℕ
  tape_of s = s.me.0.tape

-- the view of the first seat once so many seats were made
abbrev pub counting : {T E : Type 0} → View T E → ℕ → View T E
counting v n = record { at = v.at; before = v.before; made = n; limits = v.limits; taken = v.taken; tape = v.tape }

-- the table of this identity and this start
abbrev pub table_of : {E K : Type 0} → (K → Told E) → TableId → Opening E K → TableView E
table_of tells id key = record { id = id; opening = key.journal.value.entries; limits = key.journal.value.limits; seats = key.seats; faults = (tells key.keeper.value).faults }

-- a seat as the start of its table makes it: it has this number, has seen the journal, and holds nothing
pub record IsNewSeat {T E R K : Type 0} (o : Object T E R) (table : TableView E) (n : ℕ) (s : SeatView T E K) : Type 0 where
  pub own : s.table ≡ table.id
  pub number : number_of s ≡ n
  pub seen : seen_of s ≡ table.opening
  pub mine : mine_of s ≡ by_pass o n table.opening
  pub olds : s.me.0.at.olds ≡ []
  pub limits : s.me.0.limits ≡ table.limits
  pub taken : s.me.0.taken ≡ table.faults
  pub tape : s.me.0.tape ≡ table.faults
  pub nothing : HoldsNothing s

-- the seats of a table at its start, in the order of their numbers
abbrev pub AreNewSeats : {T E R K : Type 0} → Object T E R → TableView E → List (SeatView T E K) → Type 0
AreNewSeats {T} {E} {R} {K} o table seats = (k : ℕ) (s : SeatView T E K) → slice_get seats k ≡ std.Some s → IsNewSeat o table k s

-- a seat knows what another one knew: that one was joined into it, or it is that one, and had seen so much before a join
pub data Knew {T E : Type 0} (v : View T E) (p : Known E) : Type 0 where
  joined_in : (i : ℕ) → get_elem? v.at.olds i ≡ some p → Knew v p
  itself : p.number ≡ v.at.number → p.mine ≡ v.at.mine → p.seen ≡ v.at.seen → Knew v p
  itself_before : p.number ≡ v.at.number → p.mine ≡ v.at.mine → (i : ℕ) → get_elem? v.before i ≡ some p.seen → Knew v p

-- what the seat knew when the table was closed: a beginning of the journal, and its entries
pub record SawOf {T E R K : Type 0} (o : Object T E R) (journal : List E) (s : SeatView T E K) : Type 0 where
  pub seen : StartsWith journal (seen_of s)
  pub mine : mine_of s ≡ by_pass o (number_of s) journal

-- these are all seats of the table, and each holds nothing
pub record AreEverySeat {T E K : Type 0} (table : TableView E) (seats : List (SeatView T E K)) : Type 0 where
  pub own : (k : ℕ) (s : SeatView T E K) → slice_get seats k ≡ std.Some s → s.table ≡ table.id
  pub nothing : (k : ℕ) (s : SeatView T E K) → slice_get seats k ≡ std.Some s → HoldsNothing s
  pub every : (n : ℕ) → n < table.seats → (k : ℕ) × (s : SeatView T E K) × (slice_get seats k ≡ std.Some s) × (number_of s ≡ n)

-- the parts, the journal and its keeper that lie in slots
pub record AreTakenOut {T E K : Type 0} (slots : List (Slot T E K)) (parts : List T) (book : JournalView E) (keeper : K) : Type 0 where
  pub long : length parts ≡ 64
  pub parts_are : (k : ℕ) (y : T) → k < 64 → get_elem? slots k ≡ some (Part y) → slice_get parts k ≡ std.Some y
  pub book_is : get_elem? slots 64 ≡ some (Book book keeper)
