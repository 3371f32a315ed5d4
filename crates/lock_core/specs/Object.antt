-- An object that is cut into 64 parts, and what an entry does to it.
use Rattle.std.specs.Prelude.{◌≡◌, ℕ, ◌+◌, ◌<◌, Bool, true, false, List, [], ◌∷◌, length, filter, nat_eq}
use Rattle.lock_core.specs.declared.object.LockMode.{LockMode}
use Rattle.lock_core.specs.declared.object.LockMode.TheVariants.{None as Unlocked, Shared, Exclusive}
use mathlib.Core.Option.{some}
use lib.ListN.{get_elem?}

-- T a part, E an entry, R a reply. `reply`, `after`, `reads` and `writes` are of the parts, the entry and its number in the
-- journal; `reads` and `writes` are also of a stripe. `fits pass mine parts entry`: the entry may be made by this pass, whose
-- earlier entries are `mine`, on these parts
pub record Object (T E R : Type 0) : Type 1 where
  pub opening : List T
  pub reply : List T → E → ℕ → R
  pub after : List T → E → ℕ → List T
  pub reads : List T → E → ℕ → ℕ → Bool
  pub writes : List T → E → ℕ → ℕ → Bool
  pub by : E → ℕ
  pub fits : ℕ → List E → List T → E → Type 0

-- two lists of parts agree on all parts that the entry reads or writes by the first
abbrev pub Agrees : {T E R : Type 0} → Object T E R → List T → List T → E → ℕ → Type 0
Agrees o xs ys e n = (k : ℕ) → k < 64 → (o.reads xs e n k ≡ true → get_elem? xs k ≡ get_elem? ys k)
    × (o.writes xs e n k ≡ true → get_elem? xs k ≡ get_elem? ys k)

-- the entry does the same on both
pub record SameOn {T E R : Type 0} (o : Object T E R) (xs ys : List T) (e : E) (n : ℕ) : Type 0 where
  pub reads : (k : ℕ) → k < 64 → o.reads xs e n k ≡ o.reads ys e n k
  pub writes : (k : ℕ) → k < 64 → o.writes xs e n k ≡ o.writes ys e n k
  pub reply : o.reply xs e n ≡ o.reply ys e n
  pub after : (k : ℕ) → k < 64 → o.writes xs e n k ≡ true → get_elem? (o.after xs e n) k ≡ get_elem? (o.after ys e n) k
  pub fits : (pass : ℕ) (mine : List E) → o.fits pass mine xs e → o.fits pass mine ys e

-- the laws of an object: it has 64 parts, what an entry does rests on the parts that it reads and writes, and a part that it
-- doesn't write stays
pub record IsLawful {T E R : Type 0} (o : Object T E R) : Type 0 where
  pub opens : length o.opening ≡ 64
  pub keeps : (xs : List T) (e : E) (n : ℕ) → length xs ≡ 64 → length (o.after xs e n) ≡ 64
  pub frame : (xs ys : List T) (e : E) (n : ℕ) → length xs ≡ 64 → length ys ≡ 64 → Agrees o xs ys e n → SameOn o xs ys e n
  pub untouched : (xs : List T) (e : E) (n k : ℕ) → length xs ≡ 64 → k < 64 → o.writes xs e n k ≡ false
      → get_elem? (o.after xs e n) k ≡ get_elem? xs k

-- the laws of the work that stands for an entry: whether it does rests on the parts that the entry reads and writes, and
-- applied to each part that the entry writes it gives the part after the entry, whatever the number is
pub record IsWorking {T E R W : Type 0} (o : Object T E R) (does : W → List T → E → Type 0) (applied : T → W → ℕ → T) : Type 0 where
  pub frame : (w : W) (xs ys : List T) (e : E) (n : ℕ) → length xs ≡ 64 → length ys ≡ 64 → Agrees o xs ys e n → does w xs e → does w ys e
  pub works : (w : W) (xs : List T) (e : E) (n k : ℕ) (x : T) → length xs ≡ 64 → k < 64 → does w xs e → o.writes xs e n k ≡ true
      → get_elem? xs k ≡ some x → get_elem? (o.after xs e n) k ≡ some (applied x w n)

-- the mode in which a stripe is to be held: by whether it is written, and whether it is read
abbrev pub mode_of : Bool → Bool → LockMode
mode_of true r = Exclusive
mode_of false true = Shared
mode_of false false = Unlocked

-- the entries of a list that the pass made
abbrev pub by_pass : {T E R : Type 0} → Object T E R → ℕ → List E → List E
by_pass o pass h = filter (λ e. nat_eq (o.by e) pass) h

-- the parts after these entries, of which the first has this number
abbrev pub replay_from : {T E R : Type 0} → Object T E R → List T → ℕ → List E → List T
replay_from o xs n [] = xs
replay_from o xs n (e ∷ es) = replay_from o (o.after xs e n) (n + 1) es

-- the parts after a whole journal
abbrev pub replay : {T E R : Type 0} → Object T E R → List E → List T
replay o h = replay_from o o.opening 1 h
