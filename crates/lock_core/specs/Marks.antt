-- How the pure machine keeps its seats: how each stripe is held, without the part, and how much of the journal was seen.
use Rattle.std.specs.Prelude.{◌≡◌, ℕ, zero, suc, ◌+◌, ◌<◌, ◌≤◌, Bool, true, false, List, [], ◌∷◌, ◌++◌, length, map, take, slice_index, slice_index_or, slice_set, slice_get, nat_eq, replicate, if◌then◌else◌, ◌&&◌, ◌==◌}
use Rattle.std.specs.Prelude as std
use Rattle.lock_core.specs.declared.machine.Hold.{Hold}
use Rattle.lock_core.specs.declared.machine.Hold.TheVariants as hold
use Rattle.lock_core.specs.declared.machine.Known.{Known}
use Rattle.lock_core.specs.declared.machine.Sitting.{Sitting}
use Rattle.lock_core.specs.declared.marks.Mark.{Mark}
use Rattle.lock_core.specs.declared.marks.Mark.TheVariants.{Free, Shared, Looked, Exclusive}
use Rattle.lock_core.specs.declared.marks.Row.{Row}
use Rattle.lock_core.specs.declared.marks.Past.{Past}
use Rattle.lock_core.specs.declared.marks.Glance.{Glance}
use Rattle.lock_core.specs.declared.machine.Clause.TheVariants as clause
use Rattle.lock_core.specs.declared.object.LockMode.{LockMode}
use Rattle.lock_core.specs.declared.object.LockMode.TheVariants as mode
use Rattle.lock_core.specs.Clauses.{Asked, done, ask}
use Rattle.lock_core.specs.Object.{Object, mode_of, by_pass, replay}
use Rattle.lock_core.specs.Machine.{LockState, exclusively, hold_at, HeldIn, seat_at}
use mathlib.Core.Option.{Option, none, some}

-- a seat without parts and entries
pub record Sketch : Type 0 where
  pub live : Bool
  pub number : ℕ
  pub marks : List Mark
  pub latch : std.Option ℕ
  pub journal : Bool
  pub seen : ℕ
  pub olds : List (ℕ × ℕ)

-- a number, and how much of the journal was seen
abbrev pub past_pair : Past → ℕ × ℕ
past_pair p = (p.number, p.seen)

abbrev pub known_pair : {E : Type 0} → Known E → ℕ × ℕ
known_pair k = (k.number, length k.seen)

abbrev pub row_sketch : Row → Sketch
row_sketch r = record {
  live = r.glance.live;
  number = r.number;
  marks = r.glance.marks;
  latch = r.glance.latch;
  journal = r.glance.journal;
  seen = r.glance.seen;
  olds = map past_pair r.olds.items;
}

abbrev pub mark_of : {T : Type 0} → Hold T → Mark
mark_of hold.Free = Free
mark_of hold.Shared = Shared
mark_of (hold.Looked x) = Looked
mark_of (hold.Exclusive x) = Exclusive

abbrev pub sketch : {T E : Type 0} → Sitting T E → Sketch
sketch v = record {
  live = v.live;
  number = v.number;
  marks = map mark_of v.holds;
  latch = v.latch;
  journal = v.journal;
  seen = length v.seen;
  olds = map known_pair v.olds;
}

-- no stripe is held
unfoldable pub free_marks : List Mark
free_marks = replicate 64 Free

-- what a glance shows of a seat
pub record Looks {T E : Type 0} (g : Glance) (v : Sitting T E) : Type 0 where
  pub live : g.live ≡ v.live
  pub marks : g.marks ≡ map mark_of v.holds
  pub latch : g.latch ≡ v.latch
  pub journal : g.journal ≡ v.journal
  pub seen : g.seen ≡ length v.seen

abbrev pub mark_at : List Mark → ℕ → Mark
mark_at marks k = slice_index_or marks k Free

abbrev pub MarkedIn : LockMode → Mark → Type 0
MarkedIn mode.None Free = Unit {0}
MarkedIn mode.None Shared = ⊥
MarkedIn mode.None Looked = ⊥
MarkedIn mode.None Exclusive = ⊥
MarkedIn mode.Shared Free = ⊥
MarkedIn mode.Shared Shared = Unit {0}
MarkedIn mode.Shared Looked = Unit {0}
MarkedIn mode.Shared Exclusive = ⊥
MarkedIn mode.Exclusive Free = ⊥
MarkedIn mode.Exclusive Shared = ⊥
MarkedIn mode.Exclusive Looked = ⊥
MarkedIn mode.Exclusive Exclusive = Unit {0}

abbrev pub IsNotedMark : Mark → Type 0
IsNotedMark Free = Unit {0}
IsNotedMark Shared = ⊥
IsNotedMark Looked = Unit {0}
IsNotedMark Exclusive = Unit {0}

-- nothing is held from a stripe on
abbrev pub FreeFrom : List Mark → ℕ → Type 0
FreeFrom marks s = (k : ℕ) → s ≤ k → MarkedIn mode.None (mark_at marks k)

-- each stripe that is held has a note
abbrev pub AllNoted : List Mark → Type 0
AllNoted marks = (k : ℕ) → IsNotedMark (mark_at marks k)

-- each stripe is held in its mode
abbrev pub HeldAs : List LockMode → List Mark → Type 0
HeldAs modes marks = (k : ℕ) (m : LockMode) → k < 64 → slice_get modes k ≡ std.Some m → MarkedIn m (mark_at marks k)

-- what is held is what the entry with this number reads and writes of these parts
abbrev pub HeldAsPlayed : {T E R : Type 0} → Object T E R → List T → E → ℕ → List Mark → Type 0
HeldAsPlayed o parts e n marks = (k : ℕ) → k < 64 → MarkedIn (mode_of (o.writes parts e n k) (o.reads parts e n k)) (mark_at marks k)

-- the entry is of this pass, and may be made after the journal
abbrev pub MayPlay : {T E R : Type 0} → Object T E R → List E → ℕ → E → Type 0
MayPlay o h pass e = (o.by e ≡ pass) × o.fits pass (by_pass o pass h) (replay o h) e

-- a seat is now as a glance says
abbrev pub reglanced : Sketch → Glance → Sketch
reglanced v g = record {
  live = g.live;
  number = v.number;
  marks = g.marks;
  latch = g.latch;
  journal = g.journal;
  seen = g.seen;
  olds = v.olds;
}

-- `m` is the state with another word, and one seat as the glance says; parts and notes are what they are
pub record Put {T E R : Type 0} (old m : LockState T E R) (seat at word : ℕ) (g : Glance) : Type 0 where
  pub words : m.words ≡ slice_set old.words at word
  pub journal : m.journal ≡ old.journal
  pub replies : m.replies ≡ old.replies
  pub sitting : Sitting T E
  pub seats : m.seats ≡ slice_set old.seats seat sitting
  pub glanced : sketch sitting ≡ reglanced (sketch (seat_at old.seats seat)) g
  pub live : (seat_at old.seats seat).live ≡ true
  pub at_below : at < 129

-- a live seat with neither journal nor latch
abbrev pub IsReady : {T E : Type 0} → Sitting T E → Type 0
IsReady x = (x.live ≡ true) × (x.journal ≡ false) × (x.latch ≡ std.None)

-- the first clauses of most events
abbrev pub asks_ready : {T E : Type 0} → Sitting T E → Asked
asks_ready x = ask clause.Live (x.live ≡ true) (ask clause.NoJournal (x.journal ≡ false) (ask clause.NoLatch (x.latch ≡ std.None) done))

-- the first clauses of an event that takes a stripe
abbrev pub asks_rising : {T E : Type 0} → Sitting T E → ℕ → Asked
asks_rising x s = ask clause.Live (x.live ≡ true) (ask clause.NoJournal (x.journal ≡ false) (ask clause.NoLatch (x.latch ≡ std.None)
    (ask clause.Ascending ((k : ℕ) → s ≤ k → HeldIn mode.None (hold_at x.holds k)) done)))

module _ {T : Type 0} where
  -- the holds that the marks stand for, on these parts
  abbrev pub hold_of : Mark → T → Hold T
  hold_of Free x = hold.Free
  hold_of Shared x = hold.Shared
  hold_of Looked x = hold.Looked x
  hold_of Exclusive x = hold.Exclusive x

  abbrev pub holds_of : List Mark → List T → List (Hold T)
  holds_of [] xs = []
  holds_of (k ∷ ks) [] = []
  holds_of (k ∷ ks) (x ∷ xs) = hold_of k x ∷ holds_of ks xs

  -- a part is home unless its stripe is held exclusively or its latch is taken
  abbrev pub home_of : ℕ → ℕ → T → Option T
  home_of word latch x = if word == exclusively then none else (if latch == 0 then some x else none)

  -- the places of the parts from this stripe on
  abbrev pub homes_from : ℕ → List ℕ → List T → List (Option T)
  homes_from k words [] = []
  homes_from k words (x ∷ xs) = home_of (slice_index words k) (slice_index words (64 + k)) x ∷ homes_from (suc k) words xs

module _ {T E R : Type 0} (o : Object T E R) where
  abbrev pub past_of : List E → Past → Known E
  past_of h p = record { number = p.number; seen = take p.seen h; mine = by_pass o p.number (take p.seen h) }

  abbrev pub seat_of : List T → List E → Row → Sitting T E
  seat_of parts h r = record {
    live = r.glance.live;
    number = r.number;
    holds = holds_of r.glance.marks parts;
    latch = r.glance.latch;
    journal = r.glance.journal;
    seen = take r.glance.seen h;
    mine = by_pass o r.number (take r.glance.seen h);
    olds = map (past_of h) r.olds.items;
  }

  -- the state that words, parts, journal, replies and rows stand for
  abbrev pub state_of : List ℕ → List T → List E → List R → List Row → LockState T E R
  state_of words parts h replies rows = record {
    words = words;
    homes = homes_from 0 words parts;
    journal = h;
    replies = replies;
    seats = map (seat_of parts h) rows;
  }
