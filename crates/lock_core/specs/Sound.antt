-- What holds of the lock machine between any two events, stripe by stripe and seat by seat. The same in the words in which it
-- is read is `Invariant`.
use Rattle.std.specs.Prelude.{◌≡◌, ◌≢◌, ℕ, zero, suc, ◌+◌, ◌*◌, ◌<◌, ◌≤◌, Bool, true, false, List, [], ◌∷◌, ◌++◌, length, slice_index, map, take, nat_eq, nat_lt, replicate, if◌then◌else◌}
use Rattle.std.specs.Prelude as std
use Rattle.lock_core.specs.declared.machine.Hold.{Hold}
use Rattle.lock_core.specs.declared.machine.Hold.TheVariants.{Free, Shared, Looked, Exclusive}
use Rattle.lock_core.specs.declared.machine.Known.{Known}
use Rattle.lock_core.specs.declared.machine.Sitting.{Sitting}
use Rattle.lock_core.specs.Object.{Object, by_pass, replay}
use Rattle.lock_core.specs.Machine.{LockState, exclusively, hold_at, note_of, spent, seat_at, newcomer}
use mathlib.Core.Option.{Option, none, some}
use lib.ListN.{get_elem?}

-- the sum of a number of each element
abbrev pub total : {A : Type 0} → (A → ℕ) → List A → ℕ
total f [] = 0
total f (x ∷ xs) = f x + total f xs

abbrev pub one_if : Bool → ℕ
one_if true = 1
one_if false = 0

-- a list begins with another
abbrev pub StartsWith : {E : Type 0} → List E → List E → Type 0
StartsWith {E} xs ys = (rest : List E) × (ys ++ rest ≡ xs)

abbrev pub is_at : std.Option ℕ → ℕ → Bool
is_at std.None k = false
is_at (std.Some s) k = nat_eq s k

-- how a seat stands to one stripe
pub record Grip (T : Type 0) : Type 0 where
  pub hold : Hold T
  pub latched : Bool

module _ {T : Type 0} where
  abbrev pub shared_in : Hold T → ℕ
  shared_in Free = 0
  shared_in Shared = 1
  shared_in (Looked x) = 1
  shared_in (Exclusive x) = 0

  abbrev pub exclusive_in : Hold T → ℕ
  exclusive_in Free = 0
  exclusive_in Shared = 0
  exclusive_in (Looked x) = 0
  exclusive_in (Exclusive x) = 1

  -- held shared, with a note
  abbrev pub IsLooked : Hold T → Type 0
  IsLooked Free = ⊥
  IsLooked Shared = ⊥
  IsLooked (Looked x) = Unit {0}
  IsLooked (Exclusive x) = ⊥

abbrev pub grip : {T E : Type 0} → ℕ → Sitting T E → Grip T
grip k v = record { hold = hold_at v.holds k; latched = is_at v.latch k }

-- a lock word and a latch word, of a stripe that so many seats hold shared and exclusively, and have the latch of
pub record Counts (word latch shared exclusive latched : ℕ) : Type 0 where
  pub counted : word ≡ shared + exclusively * exclusive
  pub few : shared < exclusively
  pub alone : exclusive ≤ 1
  pub apart : 0 < exclusive → shared ≡ 0
  pub latch_counted : latch ≡ latched
  pub latch_alone : latch ≤ 1

-- one stripe: its words, its place, its part in the replay, and how each seat stands to it
pub record StripeOk {T : Type 0} (word latch : ℕ) (home : Option (Option T)) (part : Option T) (seats : List (Grip T)) : Type 0 where
  pub counts : Counts word latch (total (λ (g : Grip T). shared_in g.hold) seats) (total (λ (g : Grip T). exclusive_in g.hold) seats)
      (total (λ (g : Grip T). one_if g.latched) seats)
  pub looked : (j : ℕ) (g : Grip T) → get_elem? seats j ≡ some g → g.latched ≡ true → IsLooked g.hold
  pub noted : (j : ℕ) (g : Grip T) (x : T) → get_elem? seats j ≡ some g → note_of g.hold ≡ some x → part ≡ some x
  pub at_home : total (λ (g : Grip T). exclusive_in g.hold) seats + latch ≡ 0 → home ≡ some part
  pub away : 0 < total (λ (g : Grip T). exclusive_in g.hold) seats + latch → home ≡ some none

-- how often a number is that of a live seat or of one that was joined into it
abbrev pub times : {T E : Type 0} → ℕ → Sitting T E → ℕ
times {T} {E} n v = one_if (if v.live then nat_eq v.number n else false) + total (λ (p : Known E). one_if (nat_eq p.number n)) v.olds

module _ {T E R : Type 0} (o : Object T E R) (h0 : List E) where
  -- what a seat knows, of a journal that started as `h0`
  pub record KnowsOk (h : List E) (number : ℕ) (seen mine : List E) : Type 0 where
    pub prefix : StartsWith h seen
    pub start : StartsWith seen h0
    pub mine_of_all : mine ≡ by_pass o number h
    pub mine_of_seen : mine ≡ by_pass o number seen

  -- a live seat at its place in the list
  pub record SeatOk (h : List E) (j : ℕ) (v : Sitting T E) : Type 0 where
    pub number : v.number ≡ j
    pub wide : length v.holds ≡ 64
    pub knows : KnowsOk h v.number v.seen v.mine
    pub whole : v.journal ≡ true → v.seen ≡ h
    pub olds : (k : ℕ) (p : Known E) → get_elem? v.olds k ≡ some p → KnowsOk h p.number p.seen p.mine

  -- the entries past the start were made by passes below the count
  pub record MadeBelow (count : ℕ) (h : List E) : Type 0 where
    pub rest : List E
    pub begins : h0 ++ rest ≡ h
    pub below : (n : ℕ) (e : E) → get_elem? rest n ≡ some e → o.by e < count

module _ {T E R : Type 0} (o : Object T E R) where
  -- each entry fits at its place, with the entries of its pass before it and the replay before it
  abbrev pub AllFit : List E → Type 0
  AllFit h = (n : ℕ) (e : E) → get_elem? h n ≡ some e → o.fits (o.by e) (by_pass o (o.by e) (take n h)) (replay o (take n h)) e

  -- the reply at each place is the entry's on the replay before it
  pub record AllReplied (replies : List R) (h : List E) : Type 0 where
    pub long : length replies ≡ length h
    pub each : (n : ℕ) (e : E) → get_elem? h n ≡ some e → get_elem? replies n ≡ some (o.reply (replay o (take n h)) e (n + 1))

  pub record IsSound (h0 : List E) (m : LockState T E R) : Type 0 where
    pub words : length m.words ≡ 129
    pub homes : length m.homes ≡ 64
    pub stripes : (k : ℕ) → k < 64 → StripeOk (slice_index m.words k) (slice_index m.words (64 + k)) (get_elem? m.homes k)
        (get_elem? (replay o m.journal) k) (map (grip k) m.seats)
    pub journal_word : slice_index m.words 128 ≡ total (λ (v : Sitting T E). one_if v.journal) m.seats
    pub journal_alone : slice_index m.words 128 ≤ 1
    pub seats : (j : ℕ) → (seat_at m.seats j).live ≡ true → SeatOk o h0 m.journal j (seat_at m.seats j)
    pub dead : (j : ℕ) → (seat_at m.seats j).live ≡ false → seat_at m.seats j ≡ spent
    pub numbered : (n : ℕ) → total (times n) m.seats ≡ one_if (nat_lt n (length m.seats))
    pub fit : AllFit m.journal
    pub made : MadeBelow o h0 (length m.seats) m.journal
    pub replied : AllReplied m.replies m.journal

  -- the replies of a list of entries, of which the first has this number
  abbrev pub replies_from : List T → ℕ → List E → List R
  replies_from xs n [] = []
  replies_from xs n (e ∷ es) = o.reply xs e n ∷ replies_from (o.after xs e n) (n + 1) es

-- every word is 0
unfoldable pub free_words : List ℕ
free_words = replicate 129 0

-- the machine at its start from this journal: seat 0 is there alone, and nothing is held
abbrev pub opened : {T E R : Type 0} → Object T E R → List E → LockState T E R
opened o h0 = record {
  words = free_words;
  homes = map some (replay o h0);
  journal = h0;
  replies = replies_from o o.opening 1 h0;
  seats = newcomer o 0 h0 ∷ [];
}
