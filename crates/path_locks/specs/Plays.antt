-- What each step on a word tells the seat that makes it.
use Rattle.std.specs.Prelude.{◌≡◌, ◌≢◌, ℕ, ◌+◌, ◌≤◌, true, false, List, [], ◌∷◌}
use Rattle.std.specs.Prelude as std
use Rattle.lock_core.specs.declared.object.LockMode.{LockMode}
use Rattle.lock_core.specs.declared.object.LockMode.TheVariants as mode
use Rattle.lock_core.specs.declared.machine.Hold.{Hold}
use Rattle.lock_core.specs.declared.machine.Hold.TheVariants.{Free, Shared, Exclusive}
use Rattle.lock_core.specs.declared.machine.Sitting.{Sitting}
use Rattle.lock_core.specs.Object.{Object}
use Rattle.lock_core.specs.Machine.{hold_at, HeldIn, with_hold, newcomer, joined, spent, IsIdle}
use Rattle.atomic_table.specs.Table.{Me, Step, rest}
use Rattle.path_locks.specs.declared.rule.Slot.{Slot}
use Rattle.path_locks.specs.declared.rule.Slot.TheVariants.{Part}
use Rattle.path_locks.specs.declared.rule.View.{View}
use Rattle.path_locks.specs.Stands.{Stands}

module _ {T E : Type 0} where
  -- the same view, with the seat in another state
  abbrev pub with_at : View T E → Sitting T E → View T E
  with_at v x = record { at = x; before = v.before; made = v.made; limits = v.limits; taken = v.taken; tape = v.tape }

  -- the same view, with other counts
  abbrev pub with_counts : View T E → ℕ → ℕ → View T E
  with_counts v taken tape = record { at = v.at; before = v.before; made = v.made; limits = v.limits; taken = taken; tape = tape }

  -- the same view, with the stripe held otherwise
  abbrev pub with_stripe : View T E → ℕ → Hold T → View T E
  with_stripe v s h = with_at v (with_hold v.at s h)

  -- a seat that neither has the journal nor a latch
  pub record IsQuiet (x : Sitting T E) : Type 0 where
    pub live : x.live ≡ true
    pub no_journal : x.journal ≡ false
    pub no_latch : x.latch ≡ std.None

  -- a live seat that holds nothing
  pub record IsResting (x : Sitting T E) : Type 0 where
    pub live : x.live ≡ true
    pub idle : IsIdle x

  -- the seat may take the stripe: it is above all that the seat holds
  pub record MayTake (x : Sitting T E) (s : ℕ) : Type 0 where
    pub quiet : IsQuiet x
    pub above : (k : ℕ) → s ≤ k → HeldIn mode.None (hold_at x.holds k)

  -- the seat may give the stripe back, which it holds in this mode
  pub record MayGive (m : LockMode) (x : Sitting T E) (s : ℕ) : Type 0 where
    pub quiet : IsQuiet x
    pub held : HeldIn m (hold_at x.holds s)

  -- the view of the first seat once it has made another one, and the view of that one
  abbrev pub made_another : View T E → View T E
  made_another v = record { at = v.at; before = v.before; made = v.made + 1; limits = v.limits; taken = v.taken; tape = v.tape }

  -- the view of a seat that another was joined into, which had seen a part of the journal
  abbrev pub joined_view : View T E → View T E → View T E
  joined_view v w = record { at = joined w.at v.at; before = v.at.seen ∷ v.before; made = v.made; limits = v.limits; taken = v.taken; tape = v.tape }

  -- the view of a seat that was joined into another
  abbrev pub spent_view : View T E
  spent_view = record {
    at = spent;
    before = [];
    made = 0;
    limits = record { passes = 0; journal_max = 0; bytes_max = 0; requests_max = 0 };
    taken = 0;
    tape = 0;
  }

module _ {T E R : Type 0} (o : Object T E R) where
  -- the view of a new seat
  abbrev pub new_view : View T E → View T E
  new_view v = record { at = newcomer o v.made v.at.seen; before = []; made = 0; limits = v.limits; taken = v.taken; tape = v.tape }

  module _ {K : Type 0} where
    -- the seat holds the stripe in this way from now on, and its slots in hand are these
    pub record Holds (m : Me (Slot T E K) (View T E)) (s : ℕ) (h : Hold T) (hand : List (ℕ × Slot T E K)) (m' : Me (Slot T E K) (View T E)) : Type 0 where
      pub view : m'.0 ≡ with_stripe m.0 s h
      pub hand_is : m'.1 ≡ hand
      pub stands : Stands o m'.0.at

    -- the word was what was wanted and the stripe is taken shared, or nothing changed
    abbrev pub took_shared : Step (Slot T E K) → Me (Slot T E K) (View T E) → ℕ → Me (Slot T E K) (View T E) → Type 0
    took_shared st m found m' = (found ≡ st.first → Holds m st.word Shared m.1 m') × (found ≢ st.first → m' ≡ m)

    -- the same for a stripe taken exclusively: its part is in hand, and is the note without what a reserve keeps ready
    abbrev pub took_exclusive : (T → T) → Step (Slot T E K) → Me (Slot T E K) (View T E) → ℕ → Me (Slot T E K) (View T E) → Type 0
    took_exclusive bare st m found m' =
        (found ≡ 0 → (y : T) × Holds m st.word (Exclusive (bare y)) ((st.word, Part y) ∷ m.1) m') × (found ≢ 0 → m' ≡ m)

    -- a stripe that was held shared is given back
    abbrev pub gave_shared : Step (Slot T E K) → Me (Slot T E K) (View T E) → ℕ → Me (Slot T E K) (View T E) → Type 0
    gave_shared st m found m' = Holds m st.word Free m.1 m'

    -- a stripe that was held exclusively is given back, with the part that was taken last
    abbrev pub gave_exclusive : Step (Slot T E K) → Me (Slot T E K) (View T E) → ℕ → Me (Slot T E K) (View T E) → Type 0
    gave_exclusive st m found m' = Holds m st.word Free (rest m.1) m'
