-- What the steps on the journal's word and on latch words tell the seat that makes them, and the one that holds a stripe shared
-- from now on.
use Rattle.std.specs.Prelude.{◌≡◌, ◌≢◌, ℕ, ◌+◌, ◌<◌, ◌≤◌, true, false, List, [], ◌∷◌, ◌++◌, length}
use Rattle.std.specs.Prelude as std
use Rattle.lock_core.specs.declared.machine.Hold.TheVariants.{Looked}
use Rattle.lock_core.specs.declared.machine.Sitting.{Sitting}
use Rattle.lock_core.specs.Object.{Object, replay}
use Rattle.lock_core.specs.Machine.{hold_at, note_of, with_hold, with_latch, with_journal, downgraded, committed}
use Rattle.lock_core.specs.Sound.{StartsWith, AllFit}
use Rattle.commit_journal.specs.Journal.{JournalView}
use Rattle.commit_journal.specs.Keeper.{Told, AreKept}
use Rattle.atomic_table.specs.Table.{Me, Step, rest}
use Rattle.path_locks.specs.declared.rule.Slot.{Slot}
use Rattle.path_locks.specs.declared.rule.Slot.TheVariants.{Part, Book}
use Rattle.path_locks.specs.declared.rule.View.{View}
use Rattle.path_locks.specs.Plays.{with_at, with_counts, with_stripe, Holds}
use Rattle.path_locks.specs.Stands.{Stands}
use mathlib.Core.Option.{some}
use lib.ListN.{get_elem?}

module _ {T E R : Type 0} (o : Object T E R) where
  -- each part that the seat found is that of the replay of what it has seen
  abbrev pub AreNotesSeen : Sitting T E → Type 0
  AreNotesSeen x = (k : ℕ) (y : T) → k < 64 → note_of (hold_at x.holds k) ≡ some y → get_elem? (replay o x.seen) k ≡ some y

  module _ {K : Type 0} where
    -- the seat has the journal from now on, has seen all of it, and has these slots in hand
    pub record TookJournal (tells : K → Told E) (m : Me (Slot T E K) (View T E)) (b : JournalView E) (c : K) (hand : List (ℕ × Slot T E K)) (m' : Me (Slot T E K) (View T E)) : Type 0 where
      pub view : m'.0 ≡ with_counts (with_at m.0 (with_journal m.0.at true b.entries)) (tells c).faults (tells c).faults
      pub hand_is : m'.1 ≡ hand
      pub limits_are : b.limits ≡ m.0.limits
      pub kept : AreKept (tells c).kept b.entries
      pub rose : m.0.tape ≤ (tells c).faults
      pub begins : StartsWith b.entries m.0.at.seen
      pub fit : AllFit o b.entries
      pub notes : AreNotesSeen m'.0.at
      pub stands : Stands o m'.0.at

    -- the word was 0 and the journal is taken, or nothing changed
    abbrev pub took_journal : (K → Told E) → Step (Slot T E K) → Me (Slot T E K) (View T E) → ℕ → Me (Slot T E K) (View T E) → Type 0
    took_journal tells st m found m' =
        (found ≡ 0 → (b : JournalView E) × (c : K) × TookJournal tells m b c ((64, Book b c) ∷ m.1) m') × (found ≢ 0 → m' ≡ m)

    -- the journal is given back as it was
    pub record GaveJournal (tells : K → Told E) (m : Me (Slot T E K) (View T E)) (c : K) (m' : Me (Slot T E K) (View T E)) : Type 0 where
      pub view : m'.0 ≡ with_counts (with_at m.0 (with_journal m.0.at false m.0.at.seen)) m.0.taken (tells c).faults
      pub hand_is : m'.1 ≡ rest m.1
      pub stands : Stands o m'.0.at

    abbrev pub gave_journal : (K → Told E) → Step (Slot T E K) → Me (Slot T E K) (View T E) → ℕ → Me (Slot T E K) (View T E) → Type 0
    gave_journal tells st m found m' = (b : JournalView E) (c : K) → m.1 ≡ (64, Book b c) ∷ rest m.1 → GaveJournal tells m c m'

    -- the journal is given back with one entry more
    pub record Commits (tells : K → Told E) (m : Me (Slot T E K) (View T E)) (e : E) (c : K) (m' : Me (Slot T E K) (View T E)) : Type 0 where
      pub view : m'.0 ≡ with_counts (with_at m.0 (committed o m.0.at e (length m.0.at.seen + 1))) m.0.taken (tells c).faults
      pub hand_is : m'.1 ≡ rest m.1
      pub fit : AllFit o m'.0.at.seen
      pub notes : AreNotesSeen m'.0.at
      pub stands : Stands o m'.0.at

    -- that entry is the last one of the journal in hand
    abbrev pub gave_longer : (K → Told E) → Step (Slot T E K) → Me (Slot T E K) (View T E) → ℕ → Me (Slot T E K) (View T E) → Type 0
    gave_longer tells st m found m' = (b : JournalView E) (c : K) (e : E) → m.1 ≡ (64, Book b c) ∷ rest m.1 → b.entries ≡ m.0.at.seen ++ e ∷ []
        → Commits tells m e c m'

    -- the seat has the latch of a stripe from now on and has found this part there
    pub record TookLatch (m : Me (Slot T E K) (View T E)) (s : ℕ) (x : T) (hand : List (ℕ × Slot T E K)) (m' : Me (Slot T E K) (View T E)) : Type 0 where
      pub view : m'.0 ≡ with_at m.0 (with_latch (with_hold m.0.at s (Looked x)) (std.Some s))
      pub hand_is : m'.1 ≡ hand
      pub again : (y : T) → note_of (hold_at m.0.at.holds s) ≡ some y → y ≡ x
      pub stands : Stands o m'.0.at

    -- the latch word was 0 and the latch is taken, or nothing changed
    abbrev pub took_latch : (T → T) → Step (Slot T E K) → Me (Slot T E K) (View T E) → ℕ → Me (Slot T E K) (View T E) → Type 0
    took_latch bare st m found m' = (s : ℕ) → st.word ≡ 64 + s
        → (found ≡ 0 → (y : T) × TookLatch m s (bare y) ((s, Part y) ∷ m.1) m') × (found ≢ 0 → m' ≡ m)

    -- the latch is given back
    pub record GaveLatch (m m' : Me (Slot T E K) (View T E)) : Type 0 where
      pub view : m'.0 ≡ with_at m.0 (with_latch m.0.at std.None)
      pub hand_is : m'.1 ≡ rest m.1
      pub stands : Stands o m'.0.at

    abbrev pub gave_latch : Step (Slot T E K) → Me (Slot T E K) (View T E) → ℕ → Me (Slot T E K) (View T E) → Type 0
    gave_latch st m found m' = GaveLatch m m'

    -- a stripe that was held exclusively is held shared from now on, with its note
    abbrev pub made_shared : Step (Slot T E K) → Me (Slot T E K) (View T E) → ℕ → Me (Slot T E K) (View T E) → Type 0
    made_shared st m found m' = Holds o m st.word (downgraded (hold_at m.0.at.holds st.word)) (rest m.1) m'

    -- the seat has looked at a stripe that it holds shared, and found this part there
    pub record LookedAt (m : Me (Slot T E K) (View T E)) (s : ℕ) (x : T) (m' : Me (Slot T E K) (View T E)) : Type 0 where
      pub view : m'.0 ≡ with_stripe m.0 s (Looked x)
      pub hand_is : m'.1 ≡ m.1
      pub again : (y : T) → note_of (hold_at m.0.at.holds s) ≡ some y → y ≡ x
      pub stands : Stands o m'.0.at
