-- The lock machine over an object: its state, what each event asks for, and what it changes.
use Rattle.std.specs.Prelude.{◌≡◌, ◌≢◌, ℕ, zero, suc, ◌+◌, ◌-◌, ◌<◌, ◌≤◌, Bool, true, false, List, [], ◌∷◌, ◌++◌, length, slice_index, slice_set, nat_eq, nat_lt, replicate, if◌then◌else◌}
use Rattle.std.specs.Prelude as std
use Rattle.lock_core.specs.declared.object.LockMode.{LockMode}
use Rattle.lock_core.specs.declared.object.LockMode.TheVariants as mode
use Rattle.lock_core.specs.declared.machine.Hold.{Hold}
use Rattle.lock_core.specs.declared.machine.Hold.TheVariants.{Free, Shared, Looked, Exclusive}
use Rattle.lock_core.specs.declared.machine.Known.{Known}
use Rattle.lock_core.specs.declared.machine.Sitting.{Sitting}
use Rattle.lock_core.specs.declared.machine.Event.{Event}
use Rattle.lock_core.specs.declared.machine.Event.TheVariants as event
use Rattle.lock_core.specs.declared.machine.Clause.TheVariants as clause
use Rattle.lock_core.specs.Object.{Object, mode_of, by_pass}
use Rattle.lock_core.specs.declared.machine.StepStop.{StepStop}
use Rattle.lock_core.specs.Clauses.{Asked, done, ask, AllHold, IsStop}
use mathlib.Core.Option.{Option, none, some}
use lib.ListN.{get_elem?}

-- the word of a stripe that is held exclusively
abbrev pub exclusively : ℕ
exclusively = 4294967296

-- the words are 64 lock words, 64 latch words and the journal word. A part is home, or out with a seat
pub record LockState (T E R : Type 0) : Type 0 where
  pub words : List ℕ
  pub homes : List (Option T)
  pub journal : List E
  pub replies : List R
  pub seats : List (Sitting T E)

module _ {T : Type 0} where
  -- a stripe that isn't held is free
  abbrev pub hold_at : List (Hold T) → ℕ → Hold T
  hold_at [] k = Free
  hold_at (h ∷ hs) zero = h
  hold_at (h ∷ hs) (suc k) = hold_at hs k

  abbrev pub note_of : Hold T → Option T
  note_of Free = none
  note_of Shared = none
  note_of (Looked x) = some x
  note_of (Exclusive x) = some x

  abbrev pub HeldIn : LockMode → Hold T → Type 0
  HeldIn mode.None Free = Unit {0}
  HeldIn mode.None Shared = ⊥
  HeldIn mode.None (Looked x) = ⊥
  HeldIn mode.None (Exclusive x) = ⊥
  HeldIn mode.Shared Free = ⊥
  HeldIn mode.Shared Shared = Unit {0}
  HeldIn mode.Shared (Looked x) = Unit {0}
  HeldIn mode.Shared (Exclusive x) = ⊥
  HeldIn mode.Exclusive Free = ⊥
  HeldIn mode.Exclusive Shared = ⊥
  HeldIn mode.Exclusive (Looked x) = ⊥
  HeldIn mode.Exclusive (Exclusive x) = Unit {0}

  -- a stripe that is held has a note
  abbrev pub IsNoted : Hold T → Type 0
  IsNoted Free = Unit {0}
  IsNoted Shared = ⊥
  IsNoted (Looked x) = Unit {0}
  IsNoted (Exclusive x) = Unit {0}

  -- held exclusively, or looked at, with the part that was found
  abbrev pub exclusive_with : Option (Option T) → Hold T
  exclusive_with none = Free
  exclusive_with (some none) = Free
  exclusive_with (some (some x)) = Exclusive x

  abbrev pub looked_with : Option (Option T) → Hold T
  looked_with none = Shared
  looked_with (some none) = Shared
  looked_with (some (some x)) = Looked x

  -- held shared from now on, with the note
  abbrev pub downgraded : Hold T → Hold T
  downgraded Free = Free
  downgraded Shared = Shared
  downgraded (Looked x) = Looked x
  downgraded (Exclusive x) = Looked x

  -- the notes, and where there is none the part of a list
  abbrev pub note_or : Hold T → T → T
  note_or Free p = p
  note_or Shared p = p
  note_or (Looked x) p = x
  note_or (Exclusive x) p = x

  abbrev pub notes_or : List T → List (Hold T) → List T
  notes_or [] hs = []
  notes_or (p ∷ ps) [] = p ∷ ps
  notes_or (p ∷ ps) (h ∷ hs) = note_or h p ∷ notes_or ps hs

  -- a note becomes this part
  abbrev pub renewed : Bool → Option T → Hold T → Hold T
  renewed true (some y) (Looked x) = Looked y
  renewed true (some y) (Exclusive x) = Exclusive y
  renewed _ _ h = h

  -- the holds after a commit, from stripe `k` on: each note that is written becomes the part of the list
  abbrev pub renewed_from : ℕ → (ℕ → Bool) → List T → List (Hold T) → List (Hold T)
  renewed_from k writes ys [] = []
  renewed_from k writes ys (h ∷ hs) = renewed (writes k) (get_elem? ys k) h ∷ renewed_from (suc k) writes ys hs

-- the longer of two lists, and the first where they are equally long
abbrev pub longer : {E : Type 0} → List E → List E → List E
longer xs ys = if nat_lt (length xs) (length ys) then ys else xs

-- no stripe is held
unfoldable pub free_holds : {T : Type 0} → List (Hold T)
free_holds = replicate 64 Free

module _ {T E : Type 0} where
  -- a seat that isn't live: joined into another, or never made
  abbrev pub spent : Sitting T E
  spent = record { live = false; number = 0; holds = free_holds; latch = std.None; journal = false; seen = []; mine = []; olds = [] }

  abbrev pub seat_at : List (Sitting T E) → ℕ → Sitting T E
  seat_at [] j = spent
  seat_at (x ∷ xs) zero = x
  seat_at (x ∷ xs) (suc j) = seat_at xs j

  abbrev pub with_hold : Sitting T E → ℕ → Hold T → Sitting T E
  with_hold x s h = record {
    live = x.live;
    number = x.number;
    holds = slice_set x.holds s h;
    latch = x.latch;
    journal = x.journal;
    seen = x.seen;
    mine = x.mine;
    olds = x.olds;
  }

  abbrev pub with_latch : Sitting T E → std.Option ℕ → Sitting T E
  with_latch x l = record {
    live = x.live;
    number = x.number;
    holds = x.holds;
    latch = l;
    journal = x.journal;
    seen = x.seen;
    mine = x.mine;
    olds = x.olds;
  }

  abbrev pub with_journal : Sitting T E → Bool → List E → Sitting T E
  with_journal x b h = record {
    live = x.live;
    number = x.number;
    holds = x.holds;
    latch = x.latch;
    journal = b;
    seen = h;
    mine = x.mine;
    olds = x.olds;
  }

  -- what a seat knows
  abbrev pub known : Sitting T E → Known E
  known x = record { number = x.number; seen = x.seen; mine = x.mine }

  -- the first seat goes into the second
  abbrev pub joined : Sitting T E → Sitting T E → Sitting T E
  joined w v = record {
    live = v.live;
    number = v.number;
    holds = v.holds;
    latch = v.latch;
    journal = v.journal;
    seen = longer v.seen w.seen;
    mine = v.mine;
    olds = v.olds ++ known w ∷ w.olds;
  }

  -- the seat holds nothing
  pub record IsIdle (x : Sitting T E) : Type 0 where
    pub no_hold : (k : ℕ) → HeldIn mode.None (hold_at x.holds k)
    pub no_latch : x.latch ≡ std.None
    pub no_journal : x.journal ≡ false

module _ {T E R : Type 0} (o : Object T E R) where
  -- what the seat found: its notes, and where it has none the parts at the start
  abbrev pub notes : Sitting T E → List T
  notes x = notes_or o.opening x.holds

  -- a new seat, which has seen what another one has
  abbrev pub newcomer : ℕ → List E → Sitting T E
  newcomer n seen = record {
    live = true;
    number = n;
    holds = free_holds;
    latch = std.None;
    journal = false;
    seen = seen;
    mine = by_pass o n seen;
    olds = [];
  }

  -- a seat after the commit of an entry, which is the n-th
  abbrev pub committed : Sitting T E → E → ℕ → Sitting T E
  committed x e n = record {
    live = x.live;
    number = x.number;
    holds = renewed_from 0 (o.writes (notes x) e n) (o.after (notes x) e n) x.holds;
    latch = x.latch;
    journal = false;
    seen = x.seen ++ e ∷ [];
    mine = x.mine ++ e ∷ [];
    olds = x.olds;
  }

  -- the seat holds exactly the stripes that the entry writes exclusively, and the others that it reads shared
  abbrev pub IsFootprint : Sitting T E → E → ℕ → Type 0
  IsFootprint x e n = (k : ℕ) → k < 64 → HeldIn (mode_of (o.writes (notes x) e n k) (o.reads (notes x) e n k)) (hold_at x.holds k)

  -- the seat may make the entry
  abbrev pub MayMake : Sitting T E → E → Type 0
  MayMake x e = (o.by e ≡ x.number) × o.fits x.number x.mine (notes x) e

  module _ {P W : Type 0} where
    -- the clauses of an event, in the order in which they are asked
    abbrev pub asked : LockState T E R → Event P E R T W → Asked
    asked m (event.Load v) = ask clause.Live ((seat_at m.seats v).live ≡ true) done
    asked m (event.LockShared v s) =
        let x = seat_at m.seats v in
        ask clause.Live (x.live ≡ true) (ask clause.NoJournal (x.journal ≡ false) (ask clause.NoLatch (x.latch ≡ std.None)
        (ask clause.Ascending ((k : ℕ) → s ≤ k → HeldIn mode.None (hold_at x.holds k))
        (ask clause.Free (slice_index m.words s < exclusively - 1) done))))
    asked m (event.LockExclusive v s) =
        let x = seat_at m.seats v in
        ask clause.Live (x.live ≡ true) (ask clause.NoJournal (x.journal ≡ false) (ask clause.NoLatch (x.latch ≡ std.None)
        (ask clause.Ascending ((k : ℕ) → s ≤ k → HeldIn mode.None (hold_at x.holds k)) (ask clause.Free (slice_index m.words s ≡ 0) done))))
    asked m (event.UnlockShared v s) =
        let x = seat_at m.seats v in
        ask clause.Live (x.live ≡ true) (ask clause.NoJournal (x.journal ≡ false) (ask clause.NoLatch (x.latch ≡ std.None)
        (ask clause.Holds (HeldIn mode.Shared (hold_at x.holds s)) done)))
    asked m (event.UnlockExclusive v s) =
        let x = seat_at m.seats v in
        ask clause.Live (x.live ≡ true) (ask clause.NoJournal (x.journal ≡ false) (ask clause.NoLatch (x.latch ≡ std.None)
        (ask clause.Holds (HeldIn mode.Exclusive (hold_at x.holds s)) done)))
    asked m (event.Downgrade v s) =
        let x = seat_at m.seats v in
        ask clause.Live (x.live ≡ true) (ask clause.NoJournal (x.journal ≡ false) (ask clause.NoLatch (x.latch ≡ std.None)
        (ask clause.Holds (HeldIn mode.Exclusive (hold_at x.holds s)) done)))
    asked m (event.LatchTake v s) =
        let x = seat_at m.seats v in
        ask clause.Live (x.live ≡ true) (ask clause.NoJournal (x.journal ≡ false) (ask clause.NoLatch (x.latch ≡ std.None)
        (ask clause.Holds (HeldIn mode.Shared (hold_at x.holds s)) (ask clause.Free (slice_index m.words (64 + s) ≡ 0) done))))
    asked m (event.LatchGive v s) =
        let x = seat_at m.seats v in
        ask clause.Live (x.live ≡ true) (ask clause.Holds (x.latch ≡ std.Some s) done)
    asked m (event.JournalTake v) =
        let x = seat_at m.seats v in
        ask clause.Live (x.live ≡ true) (ask clause.NoJournal (x.journal ≡ false) (ask clause.NoLatch (x.latch ≡ std.None)
        (ask clause.Free (slice_index m.words 128 ≡ 0) done)))
    asked m (event.JournalGive v) =
        let x = seat_at m.seats v in
        ask clause.Live (x.live ≡ true) (ask clause.HoldsJournal (x.journal ≡ true) done)
    asked m (event.Commit v e) =
        let x = seat_at m.seats v in
        ask clause.Live (x.live ≡ true) (ask clause.HoldsJournal (x.journal ≡ true) (ask clause.Looked ((k : ℕ) → IsNoted (hold_at x.holds k))
        (ask clause.Footprint (IsFootprint x e (length m.journal + 1)) (ask clause.Fits (MayMake x e) done))))
    asked m (event.Split v) = ask clause.Live ((seat_at m.seats v).live ≡ true) done
    asked m (event.Join w v) =
        let x = seat_at m.seats w in
        let y = seat_at m.seats v in
        ask clause.Live ((x.live ≡ true) × (y.live ≡ true) × (w ≢ v)) (ask clause.Idle (IsIdle x × IsIdle y) done)

    -- every clause of the event holds
    abbrev pub IsAllowed : LockState T E R → Event P E R T W → Type 0
    IsAllowed m e = AllHold (asked m e)

    -- the state after the event
    abbrev pub stepped : LockState T E R → Event P E R T W → LockState T E R
    stepped m (event.Load v) = m
    stepped m (event.LockShared v s) = record {
      words = slice_set m.words s (slice_index m.words s + 1);
      homes = m.homes;
      journal = m.journal;
      replies = m.replies;
      seats = slice_set m.seats v (with_hold (seat_at m.seats v) s Shared);
    }
    stepped m (event.LockExclusive v s) = record {
      words = slice_set m.words s exclusively;
      homes = slice_set m.homes s none;
      journal = m.journal;
      replies = m.replies;
      seats = slice_set m.seats v (with_hold (seat_at m.seats v) s (exclusive_with (get_elem? m.homes s)));
    }
    stepped m (event.UnlockShared v s) = record {
      words = slice_set m.words s (slice_index m.words s - 1);
      homes = m.homes;
      journal = m.journal;
      replies = m.replies;
      seats = slice_set m.seats v (with_hold (seat_at m.seats v) s Free);
    }
    stepped m (event.UnlockExclusive v s) = record {
      words = slice_set m.words s 0;
      homes = slice_set m.homes s (note_of (hold_at (seat_at m.seats v).holds s));
      journal = m.journal;
      replies = m.replies;
      seats = slice_set m.seats v (with_hold (seat_at m.seats v) s Free);
    }
    stepped m (event.Downgrade v s) = record {
      words = slice_set m.words s 1;
      homes = slice_set m.homes s (note_of (hold_at (seat_at m.seats v).holds s));
      journal = m.journal;
      replies = m.replies;
      seats = slice_set m.seats v (with_hold (seat_at m.seats v) s (downgraded (hold_at (seat_at m.seats v).holds s)));
    }
    stepped m (event.LatchTake v s) = record {
      words = slice_set m.words (64 + s) 1;
      homes = slice_set m.homes s none;
      journal = m.journal;
      replies = m.replies;
      seats = slice_set m.seats v (with_latch (with_hold (seat_at m.seats v) s (looked_with (get_elem? m.homes s))) (std.Some s));
    }
    stepped m (event.LatchGive v s) = record {
      words = slice_set m.words (64 + s) 0;
      homes = slice_set m.homes s (note_of (hold_at (seat_at m.seats v).holds s));
      journal = m.journal;
      replies = m.replies;
      seats = slice_set m.seats v (with_latch (seat_at m.seats v) std.None);
    }
    stepped m (event.JournalTake v) = record {
      words = slice_set m.words 128 1;
      homes = m.homes;
      journal = m.journal;
      replies = m.replies;
      seats = slice_set m.seats v (with_journal (seat_at m.seats v) true m.journal);
    }
    stepped m (event.JournalGive v) = record {
      words = slice_set m.words 128 0;
      homes = m.homes;
      journal = m.journal;
      replies = m.replies;
      seats = slice_set m.seats v (with_journal (seat_at m.seats v) false (seat_at m.seats v).seen);
    }
    stepped m (event.Commit v e) = record {
      words = slice_set m.words 128 0;
      homes = m.homes;
      journal = m.journal ++ e ∷ [];
      replies = m.replies ++ o.reply (notes (seat_at m.seats v)) e (length m.journal + 1) ∷ [];
      seats = slice_set m.seats v (committed (seat_at m.seats v) e (length m.journal + 1));
    }
    stepped m (event.Split v) = record {
      words = m.words;
      homes = m.homes;
      journal = m.journal;
      replies = m.replies;
      seats = m.seats ++ newcomer (length m.seats) (seat_at m.seats v).seen ∷ [];
    }
    stepped m (event.Join w v) = record {
      words = m.words;
      homes = m.homes;
      journal = m.journal;
      replies = m.replies;
      seats = slice_set (slice_set m.seats v (joined (seat_at m.seats w) (seat_at m.seats v))) w spent;
    }

    -- what a step from one state to another answers
    abbrev pub Steps : LockState T E R → LockState T E R → Event P E R T W → std.Result (Unit {0}) StepStop → Type 0
    Steps old new e result = std.MatchResult result (λ _. IsAllowed old e × (new ≡ stepped old e)) (λ stop. IsStop (asked old e) stop × (new ≡ old))

-- the stripe that the event names, if it names one, is one of the 64
abbrev pub NamesStripe : {P E R T W : Type 0} → Event P E R T W → Type 0
NamesStripe (event.Load v) = Unit {0}
NamesStripe (event.LockShared v s) = s < 64
NamesStripe (event.LockExclusive v s) = s < 64
NamesStripe (event.UnlockShared v s) = s < 64
NamesStripe (event.UnlockExclusive v s) = s < 64
NamesStripe (event.Downgrade v s) = s < 64
NamesStripe (event.LatchTake v s) = s < 64
NamesStripe (event.LatchGive v s) = s < 64
NamesStripe (event.JournalTake v) = Unit {0}
NamesStripe (event.JournalGive v) = Unit {0}
NamesStripe (event.Commit v e) = Unit {0}
NamesStripe (event.Split v) = Unit {0}
NamesStripe (event.Join w v) = Unit {0}

-- an event over plain types, since what it asks and does names neither the object's type nor its work
abbrev pub plain : {T E R : Type 0} → Event (Unit {0}) E R T (Unit {0}) → Event (Unit {0}) E R T (Unit {0})
plain e = e
