-- What the devices in memory hold.
use Rattle.std.specs.Prelude.{◌≡◌, ℕ, ◌+◌, ◌-◌, ◌^◌, ◌≤◌, ◌⊎◌, min, false, List, [], ◌∷◌, ◌++◌, drop, length, Contains, slice_index, Vec, vec_len}
use Rattle.std.specs.declared.alloc.Global.{Global}
use Rattle.std.specs.List.{flat_map}
use Rattle.conn_io.specs.declared.memory.BytesIn.{BytesIn}
use Rattle.conn_io.specs.declared.memory.BytesOut.{BytesOut}
use Rattle.conn_io.specs.declared.clocks.ListClock.{ListClock}
use Rattle.conn_io.specs.declared.listeners.Accept.{Accept}
use Rattle.conn_io.specs.declared.listeners.Accept.TheVariants.{Conn, Ended, Failed}
use Rattle.conn_io.specs.declared.listeners.ConnList.{ConnList}

-- what is left of the piece at hand, and the pieces behind it
abbrev pub bytes_left : BytesIn → List ℕ
bytes_left s = drop s.at s.piece.items ++ flat_map (λ p. p.items) s.pieces.items

-- a source that was not asked yet: these pieces are to come, and calls with these numbers fail
pub record IsNewSource (pieces : List (Vec ℕ Global)) (failing : List ℕ) (s : BytesIn) : Type 0 where
  pub left : bytes_left s ≡ flat_map (λ p. p.items) pieces
  pub fails : s.failing.items ≡ failing
  pub asked : s.calls ≡ 0
  pub faultless : s.faults ≡ 0

-- one call more was made, and the same calls fail
pub record IsAsked (old new : BytesIn) : Type 0 where
  pub calls : new.calls ≡ min (old.calls + 1) (2 ^ 64 - 1)
  pub fails : new.failing ≡ old.failing

-- the next call is one of those that fail
abbrev pub ReadFails : BytesIn → Type 0
ReadFails s = Contains s.failing.items s.calls

-- what the sink took so far
abbrev pub bytes_taken : BytesOut → List ℕ
bytes_taken s = s.bytes.items

-- a sink that was not asked yet: it takes so many bytes at a call and in all, and calls with these numbers fail
pub record IsNewSink (most room : ℕ) (failing : List ℕ) (s : BytesOut) : Type 0 where
  pub taken : bytes_taken s ≡ []
  pub most_is : s.most ≡ most
  pub room_is : s.room ≡ room
  pub fails : s.failing.items ≡ failing
  pub asked : s.calls ≡ 0
  pub faultless : s.faults ≡ 0

-- one call more was made, and the sink takes as much as before at a call and in all
pub record IsGiven (old new : BytesOut) : Type 0 where
  pub calls : new.calls ≡ min (old.calls + 1) (2 ^ 64 - 1)
  pub most : new.most ≡ old.most
  pub room : new.room ≡ old.room
  pub fails : new.failing ≡ old.failing

-- as much of the piece as may be taken at a call and as there is room for
abbrev pub amount_taken : BytesOut → List ℕ → ℕ
amount_taken s piece = min (min (length piece) s.most) (s.room - vec_len s.bytes)

-- the next call is one of those that fail, or all the room is taken
abbrev pub WriteFails : BytesOut → Type 0
WriteFails s = Contains s.failing.items s.calls ⊎ (s.room ≤ vec_len s.bytes)

-- the list from the next moment on, whose last one comes again and again
abbrev pub moments_ahead : ListClock → ℕ → ℕ
moments_ahead c k = slice_index c.moments.items (min (c.next + k) (vec_len c.moments - 1))

-- a listener that was not asked yet: these connections are to come, and calls with these numbers fail
pub record IsNewList (conns : List (BytesIn × BytesOut)) (failing : List ℕ) (s : ConnList) : Type 0 where
  pub conns_are : s.conns.items ≡ conns
  pub fails : s.failing.items ≡ failing
  pub asked : s.calls ≡ 0
  pub none_given : s.given ≡ 0
  pub is_open : s.ended ≡ false
  pub faultless : s.faults ≡ 0

-- the next call is one of those that fail
abbrev pub AcceptFails : ConnList → Type 0
AcceptFails s = Contains s.failing.items s.calls

-- the first of the connections that are to come, and the others stay
abbrev pub IsFirst : ConnList → ConnList → BytesIn → BytesOut → Type 0
IsFirst old new source sink = old.conns.items ≡ (source, sink) ∷ new.conns.items

-- the answer of the next call: a failure exactly where it is one of those that fail, else the first connection, or the end where none is left
abbrev pub Answers : ConnList → ConnList → Accept BytesIn BytesOut → Type 0
Answers old new (Conn source sink) = (¬ AcceptFails old) × IsFirst old new source sink
Answers old new Ended = (¬ AcceptFails old) × ((old.conns.items ≡ []) × (new.conns.items ≡ []))
Answers old new Failed = AcceptFails old × (new.conns ≡ old.conns)

-- one call more was made, the same calls fail, and this is its answer
pub record AcceptsNext (old new : ConnList) (answer : Accept BytesIn BytesOut) : Type 0 where
  pub calls : new.calls ≡ min (old.calls + 1) (2 ^ 64 - 1)
  pub fails : new.failing ≡ old.failing
  pub answers : Answers old new answer
