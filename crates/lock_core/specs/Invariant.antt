-- What holds of the lock machine between any two events, in the words in which it is read.
use Rattle.std.specs.Prelude.{◌≡◌, ◌≢◌, ◌⊎◌, ℕ, ◌+◌, ◌<◌, ◌≤◌, Bool, true, false, ◌&&◌, List, length, filter, slice_index}
use Rattle.std.specs.Prelude as std
use Rattle.lock_core.specs.declared.object.LockMode.TheVariants as mode
use Rattle.lock_core.specs.declared.machine.Hold.{Hold}
use Rattle.lock_core.specs.declared.machine.Hold.TheVariants.{Free, Shared, Looked, Exclusive}
use Rattle.lock_core.specs.declared.machine.Known.{Known}
use Rattle.lock_core.specs.declared.machine.Sitting.{Sitting}
use Rattle.lock_core.specs.Object.{Object, replay}
use Rattle.lock_core.specs.Machine.{LockState, exclusively, hold_at, note_of, HeldIn, seat_at}
use Rattle.lock_core.specs.Sound.{total, is_at, times, KnowsOk, MadeBelow, AllFit, AllReplied}
use mathlib.Core.Option.{none, some}
use lib.ListN.{get_elem?}

module _ {T : Type 0} where
  abbrev pub is_shared : Hold T → Bool
  is_shared Free = false
  is_shared Shared = true
  is_shared (Looked x) = true
  is_shared (Exclusive x) = false

  abbrev pub is_exclusive : Hold T → Bool
  is_exclusive Free = false
  is_exclusive Shared = false
  is_exclusive (Looked x) = false
  is_exclusive (Exclusive x) = true

-- how many live seats there are with a property
abbrev pub many : {T E : Type 0} → (Sitting T E → Bool) → List (Sitting T E) → ℕ
many p seats = length (filter (λ v. v.live && p v) seats)

module _ {T E : Type 0} where
  abbrev pub many_shared : List (Sitting T E) → ℕ → ℕ
  many_shared seats k = many (λ (v : Sitting T E). is_shared (hold_at v.holds k)) seats

  abbrev pub many_exclusive : List (Sitting T E) → ℕ → ℕ
  many_exclusive seats k = many (λ (v : Sitting T E). is_exclusive (hold_at v.holds k)) seats

  abbrev pub many_latched : List (Sitting T E) → ℕ → ℕ
  many_latched seats k = many (λ (v : Sitting T E). is_at v.latch k) seats

  abbrev pub many_journals : List (Sitting T E) → ℕ
  many_journals seats = many (λ (v : Sitting T E). v.journal) seats

module _ {T E R : Type 0} (o : Object T E R) (h0 : List E) where
  -- the words of a stripe count its holders: one that holds it exclusively, and no other, or some that hold it shared; and one
  -- that has its latch, or none
  pub record WordsCountHolders (m : LockState T E R) (k : ℕ) : Type 0 where
    pub lock : ((slice_index m.words k ≡ exclusively) × (many_exclusive m.seats k ≡ 1) × (many_shared m.seats k ≡ 0))
        ⊎ ((slice_index m.words k ≡ many_shared m.seats k) × (many_exclusive m.seats k ≡ 0))
    pub latch : ((slice_index m.words (64 + k) ≡ 1) × (many_latched m.seats k ≡ 1)) ⊎ ((slice_index m.words (64 + k) ≡ 0) × (many_latched m.seats k ≡ 0))

  -- a part is home exactly where its stripe isn't held exclusively and its latch is free, and is then that of the replay
  pub record HomeIsReplay (m : LockState T E R) (k : ℕ) : Type 0 where
    pub home : slice_index m.words k ≢ exclusively → slice_index m.words (64 + k) ≡ 0 → get_elem? m.homes k ≡ some (get_elem? (replay o m.journal) k)
    pub away : (slice_index m.words k ≡ exclusively) ⊎ (slice_index m.words (64 + k) ≡ 1) → get_elem? m.homes k ≡ some none

  -- a note is the part of the replay; who has the part has a note; who has a latch holds its stripe shared
  pub record NotesAreReplay (m : LockState T E R) (v : Sitting T E) (k : ℕ) : Type 0 where
    pub note : (x : T) → note_of (hold_at v.holds k) ≡ some x → get_elem? (replay o m.journal) k ≡ some x
    pub exclusive_noted : HeldIn mode.Exclusive (hold_at v.holds k) → (x : T) × (note_of (hold_at v.holds k) ≡ some x)
    pub latch_noted : v.latch ≡ std.Some k → (x : T) × (note_of (hold_at v.holds k) ≡ some x)
    pub latch_shared : v.latch ≡ std.Some k → HeldIn mode.Shared (hold_at v.holds k)

  -- what a seat saw, and what each seat saw that was joined into it, is a beginning of the journal, which begins with what the
  -- machine started from; its own entries are those of the journal, and those of what it saw
  pub record SeenIsPrefix (m : LockState T E R) (v : Sitting T E) : Type 0 where
    pub own : KnowsOk o h0 m.journal v.number v.seen v.mine
    pub olds : (i : ℕ) (p : Known E) → get_elem? v.olds i ≡ some p → KnowsOk o h0 m.journal p.number p.seen p.mine

  -- no number is that of two live or joined seats, and each is below the count of seats made; so is the pass of each entry past
  -- the start
  pub record SeatsAreNumbered (m : LockState T E R) : Type 0 where
    pub distinct : (n : ℕ) → total (times n) m.seats ≤ 1
    pub below : (n : ℕ) → 0 < total (times n) m.seats → n < length m.seats
    pub made : MadeBelow o h0 (length m.seats) m.journal

  pub record Invariant (m : LockState T E R) : Type 0 where
    pub words_count_holders : (k : ℕ) → k < 64 → WordsCountHolders m k
    pub journal_word : ((slice_index m.words 128 ≡ 1) × (many_journals m.seats ≡ 1)) ⊎ ((slice_index m.words 128 ≡ 0) × (many_journals m.seats ≡ 0))
    pub journal_is_seen : (j : ℕ) → (seat_at m.seats j).live ≡ true → (seat_at m.seats j).journal ≡ true → (seat_at m.seats j).seen ≡ m.journal
    pub home_is_replay : (k : ℕ) → k < 64 → HomeIsReplay m k
    pub notes_are_replay : (j k : ℕ) → (seat_at m.seats j).live ≡ true → k < 64 → NotesAreReplay m (seat_at m.seats j) k
    pub entries_fit : AllFit o m.journal
    pub seen_is_prefix : (j : ℕ) → (seat_at m.seats j).live ≡ true → SeenIsPrefix m (seat_at m.seats j)
    pub seats_are_numbered : SeatsAreNumbered m
    pub replies_are_replay : AllReplied o m.replies m.journal
